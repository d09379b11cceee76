-- Fields: how a number is shown in so many bytes, and what bytes are read as. Nothing is assumed.
--   shown        spaces, then the decimal digits of the number; digits are never cut
--   scan         the number that bytes show, read from the left, if they show one
--   field_read   that number, or the fault: the form is judged before the limit
--   FieldExact   what makes a reading right, in terms of `shown` alone
use Rattle.std.specs.Prelude.{◌≡◌, ℕ, ◌+◌, ◌-◌, ◌*◌, ◌<◌, ◌≤◌, Bool, true, false, not, ◌&&◌, ◌||◌, List, [], ◌∷◌, ◌++◌, length, replicate, Some, None, Ok, Err, decimal, Option, Result, ◌==◌, ◌≢◌, nat_le}
use Rattle.rows.specs.declared.field.FieldFault.{FieldFault}
use Rattle.rows.specs.declared.field.FieldFault.TheVariants.{Form, Limit}

abbrev pub shown : ℕ → ℕ → List ℕ
shown width v = replicate (width - length (decimal v)) 32 ++ decimal v

-- `begun`: a digit has come; `v`: the number so far. After a first 0 nothing may follow.
abbrev pub scan : Bool → ℕ → List ℕ → Option ℕ
scan begun v [] = elim begun [ true ↦ Some v | false ↦ None ]
scan begun v (b ∷ bs) = elim (nat_le 48 b && nat_le b 57) [ true ↦ elim (begun && v == 0) [ true ↦ None | false ↦ scan true (v * 10 + (b - 48)) bs ] | false ↦ elim (begun || not (b == 32)) [ true ↦ None | false ↦ scan begun v bs ] ]

abbrev pub judged : ℕ → Option ℕ → Result ℕ FieldFault
judged limit None = Err Form
judged limit (Some v) = elim (nat_le v limit) [ true ↦ Ok v | false ↦ Err Limit ]

abbrev pub field_read : List ℕ → ℕ → Result ℕ FieldFault
field_read bytes limit = judged limit (scan false 0 bytes)

-- a number is read exactly where the bytes are those that show it in the width, and it is within the limit; a refusal
-- says that they show no number, or one that passes the limit
abbrev pub FieldExact : ℕ → List ℕ → ℕ → Result ℕ FieldFault → Type 0
FieldExact width bytes limit (Ok v) = (bytes ≡ shown width v) × (v ≤ limit)
FieldExact width bytes limit (Err Form) = (v : ℕ) → bytes ≢ shown width v
FieldExact width bytes limit (Err Limit) = (v : ℕ) × (bytes ≡ shown width v) × (limit < v)
