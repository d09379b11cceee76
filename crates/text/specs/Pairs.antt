-- A list and a schedule together. Nothing is assumed.
--   pair_answer       the first row, from 1, whose class has no step is refused
--   no_step_refusal   the refusal of that row, from the table of refusals
use Rattle.std.specs.Prelude.{ℕ, ◌+◌, true, false, List, [], ◌∷◌, Ok, Err, Result}
use Rattle.source.specs.declared.reply.Reply.{Reply}
use Rattle.pace.specs.Steps.{has_step}
use Rattle.text.specs.declared.pair.NoStep.{NoStep}
pub use Rattle.text.specs.Refusals.{no_step_refusal}

module _ {B : Type 0} (ladders : List (List ℕ)) where
  -- the first reply is row k
  abbrev pub pair_from : ℕ → List (Reply B) → Result (Unit {0}) NoStep
  pair_from k [] = Ok tt
  pair_from k (r ∷ rs) = elim (has_step ladders r.«class») [ true ↦ pair_from (k + 1) rs | false ↦ Err (record { row = k }) ]

  abbrev pub pair_answer : List (Reply B) → Result (Unit {0}) NoStep
  pair_answer rs = pair_from 1 rs
