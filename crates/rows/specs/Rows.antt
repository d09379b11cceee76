-- Rows, over the shapes of their columns: how numbers are shown as a row, and what bytes are read as. Nothing is
-- assumed.
--   row_shown     the numbers, each shown in its column, and a newline
--   Within        as many numbers as columns, each within its column's limit
--   column_read   the field at the front of bytes; where they run out it has no form
--   row_read      the numbers of a row, or the first fault: fields from the left, then the newline
--   RowExact      what makes a reading right, in terms of `row_shown` and `Within` alone
--   FirstFault    what makes a refusal right: it is the first fault of the row, in terms of `shown` and the limits alone
--   Written       what a writing leaves
use Rattle.std.specs.Prelude.{◌≡◌, ℕ, ◌+◌, ◌≤◌, Bool, true, false, ◌&&◌, ◌⊎◌, List, [], ◌∷◌, ◌++◌, length, take, drop, Ok, Err, Result, ◌==◌, ◌≢◌, nat_le}
use Rattle.rows.specs.declared.field.FieldFault.{FieldFault}
use Rattle.rows.specs.declared.field.FieldFault.TheVariants.{Form}
use Rattle.rows.specs.declared.fault.RowFault.{RowFault}
use Rattle.rows.specs.declared.fault.RowFault.TheVariants.{Field, Newline}
use Rattle.rows.specs.declared.row.Misfit.{Misfit}
use Rattle.rows.specs.Fields.{shown, field_read, FieldExact}
use Rattle.rows.specs.Columns.{Shape, widths}

abbrev pub fields_shown : List Shape → List ℕ → List ℕ
fields_shown [] vs = []
fields_shown (s ∷ ss) [] = []
fields_shown (s ∷ ss) (v ∷ vs) = shown s.width v ++ fields_shown ss vs

abbrev pub row_shown : List Shape → List ℕ → List ℕ
row_shown ss vs = fields_shown ss vs ++ 10 ∷ []

abbrev pub Within : List Shape → List ℕ → Type 0
Within [] [] = Unit {0}
Within [] (v ∷ vs) = ⊥
Within (s ∷ ss) [] = ⊥
Within (s ∷ ss) (v ∷ vs) = (v ≤ s.limit) × Within ss vs

abbrev pub column_read : ℕ → ℕ → List ℕ → Result ℕ FieldFault
column_read width limit bytes = elim (nat_le width (length bytes)) [ true ↦ field_read (take width bytes) limit | false ↦ Err Form ]

-- the newline alone
abbrev pub ended : List ℕ → Result (List ℕ) RowFault
ended [] = Err Newline
ended (b ∷ []) = elim (b == 10) [ true ↦ Ok [] | false ↦ Err Newline ]
ended (b ∷ c ∷ bs) = Err Newline

-- numbers before those of a reading
abbrev pub before : List ℕ → Result (List ℕ) RowFault → Result (List ℕ) RowFault
before vs (Ok ws) = Ok (vs ++ ws)
before vs (Err f) = Err f

-- field k, and then what is read after it
abbrev pub on_field : ℕ → Result ℕ FieldFault → Result (List ℕ) RowFault → Result (List ℕ) RowFault
on_field k (Ok v) next = before (v ∷ []) next
on_field k (Err f) next = Err (Field (record { number = k; fault = f }))

-- the first field is field k
abbrev pub row_read : ℕ → List Shape → List ℕ → Result (List ℕ) RowFault
row_read k [] bytes = ended bytes
row_read k (s ∷ ss) bytes = on_field k (column_read s.width s.limit bytes) (row_read (k + 1) ss (drop s.width bytes))

-- numbers are read exactly where the row shows them and they are within the limits
abbrev pub RowExact : List Shape → List ℕ → Result (List ℕ) RowFault → Type 0
RowExact ss row (Ok vs) = (row ≡ row_shown ss vs) × Within ss vs
RowExact ss row (Err f) = (vs : List ℕ) → Within ss vs → row ≢ row_shown ss vs

-- field k is the first: it is refused, or it shows a number within its limit and the fault comes later; after the fields
-- comes the newline alone
abbrev pub FirstFault : ℕ → List Shape → List ℕ → RowFault → Type 0
FirstFault k [] row f = (f ≡ Newline) × (row ≢ 10 ∷ [])
FirstFault k (s ∷ ss) row f =
    ((e : FieldFault) × (f ≡ Field (record { number = k; fault = e })) × FieldExact s.width (take s.width row) s.limit (Err e))
    ⊎ ((v : ℕ) × FieldExact s.width (take s.width row) s.limit (Ok v) × FirstFault (k + 1) ss (drop s.width row) f)

abbrev pub RowRefused : ℕ → List Shape → List ℕ → Result (List ℕ) RowFault → Type 0
RowRefused k ss row (Ok vs) = Unit {0}
RowRefused k ss row (Err f) = FirstFault k ss row f

abbrev pub fits : List Shape → List ℕ → Bool
fits [] [] = true
fits [] (v ∷ vs) = false
fits (s ∷ ss) [] = false
fits (s ∷ ss) (v ∷ vs) = nat_le v s.limit && fits ss vs

-- a row is written where the room is that of a row and the numbers are within the limits
abbrev pub write_answer : List Shape → List ℕ → ℕ → Result (Unit {0}) Misfit
write_answer ss vs room = elim (room == widths ss + 1 && fits ss vs) [ true ↦ Ok tt | false ↦ Err (record {}) ]

-- what was written shows the numbers, and reads back as them whatever number the first field has; a refusal writes nothing
abbrev pub Written : List Shape → List ℕ → List ℕ → List ℕ → Result (Unit {0}) Misfit → Type 0
Written ss vs old new (Ok u) = (new ≡ row_shown ss vs) × ((k : ℕ) → row_read k ss new ≡ Ok vs)
Written ss vs old new (Err m) = new ≡ old
