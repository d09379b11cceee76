-- The numbers behind a foot's bits. Nothing is assumed.
--   Enough      the least number of bits that tells rows + 1 things apart
--   row_bits    the same, computed, for up to 50,000 rows
--   occurs_in   whether a class is marked in a table of eight
--   count       how many are marked
use Rattle.std.specs.Prelude.{ℕ, zero, suc, ◌+◌, ◌^◌, ◌≤◌, Bool, true, false, List, count_by, nat_le, slice_index_or}

pub record Enough (rows b : ℕ) : Type 0 where
  pub enough : rows + 1 ≤ 2 ^ b
  pub least : (i : ℕ) → rows + 1 ≤ 2 ^ i → b ≤ i

-- counted up from b, at most so many times
abbrev pub bits_from : ℕ → ℕ → ℕ → ℕ
bits_from zero rows b = b
bits_from (suc rounds) rows b = elim (nat_le (rows + 1) (2 ^ b)) [ true ↦ b | false ↦ bits_from rounds rows (suc b) ]

unfoldable pub row_bits : ℕ → ℕ
row_bits rows = bits_from 16 rows 0

abbrev pub occurs_in : List Bool → ℕ → Bool
occurs_in marks c = slice_index_or marks c false

abbrev pub count : List Bool → ℕ
count marks = count_by (λ (m : Bool). m) marks
