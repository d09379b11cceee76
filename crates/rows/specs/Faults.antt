-- A fault with the number of the part that it was found in. Nothing is assumed.
--   numbered_answer      an answer whose fault has the number put on it
--   field_fault_code     which refusal of a field it is
use Rattle.std.specs.Prelude.{ℕ, Ok, Err, Result}
use Rattle.source.specs.declared.refusal.Code.{Code}
use Rattle.source.specs.declared.refusal.Code.TheVariants as code
use Rattle.rows.specs.declared.field.FieldFault.{FieldFault}
use Rattle.rows.specs.declared.field.FieldFault.TheVariants.{Form, Limit}
use Rattle.rows.specs.declared.fault.Numbered.{Numbered}

module _ {T E : Type 0} where
  abbrev pub numbered_answer : ℕ → Result T E → Result T (Numbered E)
  numbered_answer n (Ok v) = Ok v
  numbered_answer n (Err e) = Err (record { number = n; fault = e })

abbrev pub field_fault_code : FieldFault → Code
field_fault_code Form = code.Form
field_fault_code Limit = code.Limit
