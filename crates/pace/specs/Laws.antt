-- What every pace and every penalty rule keeps, and what a pace answers. Nothing is assumed.
--   PaceLaws         a quantum from 1 to 1,000,000; a wait of at least quantum × 2^epoch, or past the horizon, and
--                    at most one past the horizon
--   PenaltyLaw       an epoch from the class's own misses to all misses
--   quantum_answer   the quantum of a class, or the refusal of a class above 7; wait_answer likewise
use Rattle.std.specs.Prelude.{ℕ, ◌*◌, ◌^◌, ◌≤◌, min, true, false, Ok, Err, Result, nat_le}
use Rattle.source.specs.declared.fault.UnknownClass.{UnknownClass}

-- one past the horizon: the longest wait, which no prediction survives
abbrev pub forever : ℕ
forever = 1000000001

pub record PaceLaws (quanta : ℕ → ℕ) (waits : ℕ → ℕ → ℕ) : Type 0 where
  pub quantum_low : (c : ℕ) → c ≤ 7 → 1 ≤ quanta c
  pub quantum_high : (c : ℕ) → c ≤ 7 → quanta c ≤ 1000000
  pub wait_low : (c e : ℕ) → c ≤ 7 → min (quanta c * 2 ^ e) forever ≤ waits c e
  pub wait_high : (c e : ℕ) → c ≤ 7 → waits c e ≤ forever

abbrev pub PenaltyLaw : (ℕ → ℕ → ℕ) → Type 0
PenaltyLaw rule = (own all : ℕ) → own ≤ all → (own ≤ rule own all) × (rule own all ≤ all)

-- an answer for a class up to 7
abbrev pub of_class : ℕ → ℕ → Result ℕ UnknownClass
of_class c n = elim (nat_le c 7) [ true ↦ Ok n | false ↦ Err (record {}) ]

abbrev pub quantum_answer : (ℕ → ℕ) → ℕ → Result ℕ UnknownClass
quantum_answer quanta c = of_class c (quanta c)

abbrev pub wait_answer : (ℕ → ℕ → ℕ) → ℕ → ℕ → Result ℕ UnknownClass
wait_answer waits c e = of_class c (waits c e)
