-- What a pace and a penalty rule answer, taken together. Nothing is assumed.
--   Rules      the quantum of a class, its wait at an epoch, the epoch for own and all misses
--   Laws       the laws of the pace and of the penalty rule
--   rules_of   the rules of the pace and the penalty rule at hand
--   Alike      two paces and penalty rules that answer alike
use Rattle.std.specs.Prelude.{◌≡◌, ℕ, ◌≤◌}
use Rattle.pace.specs.declared.Pace as Pace
use Rattle.pace.specs.declared.Penalty as Penalty
use Rattle.pace.specs.Laws.{PaceLaws, PenaltyLaw}

pub record Rules : Type 0 where
  pub quantum : ℕ → ℕ
  pub wait : ℕ → ℕ → ℕ
  pub epoch : ℕ → ℕ → ℕ

pub record Laws (m : Rules) : Type 0 where
  pub pace : PaceLaws m.quantum m.wait
  pub penalty : PenaltyLaw m.epoch

abbrev pub rules_of : {P R : Type 0} → Pace.Ghosts P → Penalty.Ghosts R → P → R → Rules
rules_of pace penalty p r = record { quantum = pace.quanta p; wait = pace.waits p; epoch = penalty.rule r }

-- two paces and penalty rules that answer alike
pub record Alike (m n : Rules) : Type 0 where
  pub quantum : (c : ℕ) → c ≤ 7 → m.quantum c ≡ n.quantum c
  pub wait : (c e : ℕ) → c ≤ 7 → m.wait c e ≡ n.wait c e
  pub epoch : (own all : ℕ) → m.epoch own all ≡ n.epoch own all
