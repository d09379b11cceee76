-- Refusals: which one each fault is, with the row and the field that it names. Nothing is assumed.
--   printed_numbers   what is printed of a refusal: its number, its row and its field, 0 where it names none
--   refusal_of        the refusal of a file's fault; 8 is of no file, as a class above 7 is past its field's limit
--   list_refusal      the refusal of a list that was not written
--   no_step_refusal   the refusal of a list that does not go with its schedule; the class is field 2
use Rattle.std.specs.Prelude.{ℕ, List, [], ◌∷◌, Some, None, Option}
use Rattle.std.specs.Option.{unwrap_or}
use Rattle.source.specs.declared.refusal.Code.{Code}
use Rattle.source.specs.declared.refusal.Code.TheVariants as code
use Rattle.source.specs.Refusals.{number_of}
use Rattle.pace.specs.Refusals.{step_fault_code}
use Rattle.rows.specs.Faults.{field_fault_code}
use Rattle.rows.specs.declared.fault.RowFault.{RowFault}
use Rattle.rows.specs.declared.fault.RowFault.TheVariants.{Field, Newline, Order, Step}
use Rattle.text.specs.declared.fault.FileFault.{FileFault}
use Rattle.text.specs.declared.fault.FileFault.TheVariants.{Row, Size}
use Rattle.text.specs.declared.fault.ListFault.{ListFault}
use Rattle.text.specs.declared.fault.ListFault.TheVariants.{File, Room}
use Rattle.text.specs.declared.fault.Refusal.{Refusal}
use Rattle.text.specs.declared.pair.NoStep.{NoStep}

abbrev pub refusal : Code → Option ℕ → Option ℕ → Refusal
refusal which row field = record { code = which; row = row; field = field }

abbrev pub printed_numbers : Refusal → List ℕ
printed_numbers r = number_of r.code ∷ unwrap_or r.row 0 ∷ unwrap_or r.field 0 ∷ []

abbrev pub row_refusal : ℕ → RowFault → Refusal
row_refusal row (Field f) = refusal (field_fault_code f.fault) (Some row) (Some f.number)
row_refusal row Newline = refusal code.Newline (Some row) None
row_refusal row Order = refusal code.Order (Some row) None
row_refusal row (Step f) = refusal (step_fault_code f) (Some row) None

abbrev pub refusal_of : FileFault → Refusal
refusal_of Size = refusal code.Size None None
refusal_of (Row f) = row_refusal f.number f.fault

abbrev pub list_refusal : ListFault → Refusal
list_refusal (File f) = refusal_of f
list_refusal Room = refusal code.Room None None

abbrev pub no_step_refusal : NoStep → Refusal
no_step_refusal e = refusal code.NoStep (Some e.row) (Some 2)
