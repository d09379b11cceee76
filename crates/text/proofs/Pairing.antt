-- The first reply whose class has no step.
use Rattle.std.proofs.Common.{◌≡◌, ℕ, ◌+◌, min, Bool, true, false, not, cond, List, [], ◌∷◌, length, take, Some, None, Ok, Err, Option, Result, refl, ap, ◌∙◌}
use Rattle.std.specs.List.{position, position_from}
use Rattle.std.proofs.lemmas.List.{take_min}
use Rattle.std.proofs.lemmas.Iterator.Adapters.{position_from-zero}
use Rattle.source.specs.declared.reply.Reply.{Reply}
use Rattle.pace.specs.Steps.{has_step}
use Rattle.text.specs.declared.pair.NoStep.{NoStep}
use Rattle.text.specs.Pairs.{pair_from, pair_answer}

-- the answer by the place, from 0, of that reply
abbrev pub lacking_at : Option ℕ → Result (Unit {0}) NoStep
lacking_at None = Ok tt
lacking_at (Some i) = Err (record { row = i + 1 })

module _ {B : Type 0} (ladders : List (List ℕ)) where
  abbrev pub lacks : Reply B → Bool
  lacks r = not (has_step ladders r.«class»)

  found_from : (i : ℕ) (rs : List (Reply B)) → lacking_at (position_from lacks i rs) ≡ pair_from ladders (i + 1) rs
  found_from i [] = refl
  found_from i (r ∷ rs) =
      elim (has_step ladders r.«class»)
      as (λ b. lacking_at (cond (not b) (Some i) (position_from lacks (i + 1) rs)) ≡ elim b [ true ↦ pair_from ladders (i + 1 + 1) rs | false ↦ Err (record { row = i + 1 }) ])
      [ true ↦ found_from (i + 1) rs | false ↦ refl ]

  pub pair_found : (rs : List (Reply B)) → lacking_at (position lacks rs) ≡ pair_answer ladders rs
  pair_found rs = ap lacking_at (position_from-zero lacks rs) ∙ found_from 0 rs

  -- the same of the replies that are looked at
  pub front_found : (rs : List (Reply B)) (n : ℕ) → n ≡ min 50000 (length rs) → lacking_at (position lacks (take n rs)) ≡ pair_answer ladders (take 50000 rs)
  front_found rs n e = pair_found (take n rs) ∙ ap (pair_answer ladders) (ap (λ k. take k rs) e ∙ take_min 50000 rs)
