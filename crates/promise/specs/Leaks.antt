-- How much timing can tell: the numbers that bound the release lists. Nothing is assumed.
--   Most       the largest number of misses that a class with some quantum can have in so many ticks
--   most_of    the same, computed, for spans up to the horizon
--   over       a sum over the classes that occur
--   exponent   one more than the sum of the most misses over the classes that occur
use Rattle.std.specs.Prelude.{ℕ, zero, suc, ◌+◌, ◌-◌, ◌*◌, ◌^◌, ◌≤◌, Bool, true, false, nat_le}

-- n is the largest whole number with q × (2^n − 1) ≤ span
pub record Most (q span n : ℕ) : Type 0 where
  pub fits : q * (2 ^ n - 1) ≤ span
  pub largest : (i : ℕ) → q * (2 ^ i - 1) ≤ span → i ≤ n

-- counted up from n, at most so many times
abbrev pub most_from : ℕ → ℕ → ℕ → ℕ → ℕ
most_from zero q span n = n
most_from (suc rounds) q span n =
    elim (nat_le (q * (2 ^ suc n - 1)) span) [ true ↦ most_from rounds q span (suc n) | false ↦ n ]

-- 30 doublings of any quantum pass the horizon
unfoldable pub most_of : ℕ → ℕ → ℕ
most_of q span = most_from 30 q span 0

-- what a class that occurs, or does not, adds to a sum
abbrev pub share : ℕ → Bool → ℕ
share n true = n
share n false = 0

-- the sum of f over the classes below n that occur
abbrev pub over : ℕ → (ℕ → ℕ) → (ℕ → Bool) → ℕ
over zero f occurs = 0
over (suc n) f occurs = over n f occurs + share (f n) (occurs n)

abbrev pub exponent : (ℕ → ℕ) → ℕ → (ℕ → Bool) → ℕ
exponent quanta span occurs = 1 + over 8 (λ c. most_of (quanta c) span) occurs
