-- Schedule files: a row is a step of a class. Nothing is assumed.
--   Entry             the numbers of a row: class, epoch, wait
--   schedule_shown    the rows of entries, one after another
--   schedule_step     a row adds its step to the ladders, or is refused as the step is
--   schedule_answer   the number of rows in a file, or its first fault
--   schedule_read     the ladders after the rows before the first fault; a file of a wrong size leaves the old ones
--   Adds              entries added one after another, each of which is taken
--   ScheduleExact     what makes an answer right: the file is the rows of entries that were added; or its size is that of
--                     no schedule; or its first rows are those of entries that were added, and the next is refused
use Rattle.std.specs.Prelude.{◌≡◌, ℕ, ◌+◌, ◌*◌, ◌≤◌, ◌⊎◌, List, [], ◌∷◌, length, take, drop, Ok, Err, Result, ◌≢◌, slice_index}
use Rattle.std.specs.List.{flat_map}
use Rattle.pace.specs.declared.fault.StepFault.{StepFault}
use Rattle.pace.specs.Steps.{no_steps, add_answer, added}
use Rattle.rows.specs.declared.fault.RowFault.{RowFault}
use Rattle.rows.specs.declared.fault.RowFault.TheVariants.{Step}
use Rattle.text.specs.declared.fault.FileFault.{FileFault}
use Rattle.text.specs.declared.fault.FileFault.TheVariants.{Row, Size}
use Rattle.rows.specs.Columns.{schedule_row}
use Rattle.rows.specs.Rows.{row_shown, Within, row_read, FirstFault}
use Rattle.text.specs.Files.{file_answer, file_read}

pub record Entry : Type 0 where
  pub «class» : ℕ
  pub epoch : ℕ
  pub wait : ℕ

abbrev pub entry_numbers : Entry → List ℕ
entry_numbers e = e.«class» ∷ e.epoch ∷ e.wait ∷ []

abbrev pub entry_shown : Entry → List ℕ
entry_shown e = row_shown schedule_row (entry_numbers e)

abbrev pub schedule_shown : List Entry → List ℕ
schedule_shown es = flat_map entry_shown es

abbrev pub entry_of : List ℕ → Entry
entry_of vs = record { «class» = slice_index vs 0; epoch = slice_index vs 1; wait = slice_index vs 2 }

abbrev pub entry_answer : List (List ℕ) → Entry → Result (Unit {0}) StepFault
entry_answer ladders e = add_answer ladders e.«class» e.epoch e.wait

-- the ladders after a step of class c, by the answer to it
abbrev pub stepped : List (List ℕ) → ℕ → ℕ → Result (Unit {0}) StepFault → Result (List (List ℕ)) RowFault
stepped ladders c wait (Ok u) = Ok (added ladders c wait)
stepped ladders c wait (Err f) = Err (Step f)

abbrev pub step_from : List (List ℕ) → Result (List ℕ) RowFault → Result (List (List ℕ)) RowFault
step_from ladders (Ok vs) = stepped ladders (entry_of vs).«class» (entry_of vs).wait (entry_answer ladders (entry_of vs))
step_from ladders (Err f) = Err f

abbrev pub schedule_step : List (List ℕ) → List ℕ → Result (List (List ℕ)) RowFault
schedule_step ladders row = step_from ladders (row_read 1 schedule_row row)

abbrev pub schedule_answer : List ℕ → Result ℕ FileFault
schedule_answer bytes = file_answer schedule_step 17 no_steps bytes 128

abbrev pub schedule_read : List (List ℕ) → List ℕ → List (List ℕ)
schedule_read old bytes = file_read schedule_step 17 no_steps bytes 128 old

abbrev pub Adds : List (List ℕ) → List Entry → List (List ℕ) → Type 0
Adds ladders [] after = after ≡ ladders
Adds ladders (e ∷ es) after = (entry_answer ladders e ≡ Ok tt) × Adds (added ladders e.«class» e.wait) es after

-- a row is refused for its first fault; or it shows an entry within the limits whose step is refused
abbrev pub EntryRefused : List (List ℕ) → List ℕ → RowFault → Type 0
EntryRefused ladders row f =
    FirstFault 1 schedule_row row f
    ⊎ ((e : Entry) × (g : StepFault) × (row ≡ entry_shown e) × Within schedule_row (entry_numbers e) × (f ≡ Step g) × (entry_answer ladders e ≡ Err g))

-- `ladders` are those that the reading left
abbrev pub ScheduleExact : List ℕ → List (List ℕ) → Result ℕ FileFault → Type 0
ScheduleExact bytes ladders (Ok n) = (es : List Entry) × (length es ≡ n) × (bytes ≡ schedule_shown es) × Adds no_steps es ladders
ScheduleExact bytes ladders (Err Size) = (n : ℕ) → n ≤ 128 → length bytes ≢ 17 * n
ScheduleExact bytes ladders (Err (Row f)) =
    (es : List Entry) × (f.number ≡ length es + 1) × (take (17 * length es) bytes ≡ schedule_shown es) × Adds no_steps es ladders
    × EntryRefused ladders (take 17 (drop (17 * length es) bytes)) f.fault
