-- A pace by steps: what it answers, and which steps it takes. Nothing is assumed.
--   ladder          the steps of one class, from its wait at epoch 0 on
--   ladders_of      the ladders of the classes 0 to 7
--   doubled         a wait doubled so many times, and at most one past the horizon
--   steps_quantum   the first step, or 1,000,000 without one
--   steps_wait      the step at the epoch; past the last step, that one doubled for each epoch more
--   add_answer      whether a step is taken, or why it is refused: its class, its range, its order
--   added           the ladders with one more step at the end of a class's
use Rattle.std.specs.Prelude.{ℕ, ◌-◌, ◌*◌, ◌^◌, min, Bool, true, false, ◌&&◌, List, [], ◌∷◌, ◌++◌, map, length, take, replicate, Ok, Err, Result, ◌==◌, nat_le, nat_lt, slice_index, slice_index_or, slice_set}
use Rattle.pace.specs.declared.fault.StepFault.{StepFault}
use Rattle.pace.specs.declared.fault.StepFault.TheVariants.{Class, Range, Order}
use Rattle.pace.specs.declared.ladder.ClassSteps.{ClassSteps}
use Rattle.pace.specs.declared.steps.Steps.{Steps}
use Rattle.pace.specs.Laws.{forever}

abbrev pub doubled : ℕ → ℕ → ℕ
doubled wait times = min (wait * 2 ^ times) forever

abbrev pub ladder_of : ClassSteps → List ℕ
ladder_of s = take s.count s.waits

abbrev pub ladders_of : Steps → List (List ℕ)
ladders_of s = map ladder_of s.classes

abbrev pub no_steps : List (List ℕ)
no_steps = replicate 8 []

abbrev pub ladder : List (List ℕ) → ℕ → List ℕ
ladder ladders c = slice_index_or ladders c []

abbrev pub has_step : List (List ℕ) → ℕ → Bool
has_step ladders c = elim (nat_le c 7) [ true ↦ nat_lt 0 (length (ladder ladders c)) | false ↦ false ]

abbrev pub steps_quantum : List ℕ → ℕ
steps_quantum [] = 1000000
steps_quantum (p ∷ ps) = p

abbrev pub steps_wait : List ℕ → ℕ → ℕ
steps_wait [] e = doubled 1000000 e
steps_wait (p ∷ ps) e = elim (nat_le e (length ps)) [ true ↦ slice_index (p ∷ ps) e | false ↦ doubled (slice_index (p ∷ ps) (length ps)) (e - length ps) ]

-- what is answered past a test of the range, and past the test of the order
abbrev pub in_range : Bool → Result (Unit {0}) StepFault → Result (Unit {0}) StepFault
in_range true answer = answer
in_range false answer = Err Range

abbrev pub in_order : Bool → Result (Unit {0}) StepFault
in_order true = Ok tt
in_order false = Err Order

-- the answer for one more step of a ladder
abbrev pub step_answer : List ℕ → ℕ → ℕ → Result (Unit {0}) StepFault
step_answer [] e wait = in_range (nat_le 1 wait && nat_le wait 1000000) (in_order (e == 0))
step_answer (p ∷ ps) e wait =
    let k = length (p ∷ ps) in
    in_range (nat_le wait 1000000000) (in_order (nat_lt k 16 && (nat_le (p * 2 ^ k) wait && e == k)))

abbrev pub add_answer : List (List ℕ) → ℕ → ℕ → ℕ → Result (Unit {0}) StepFault
add_answer ladders c e wait = elim (nat_le c 7) [ true ↦ step_answer (ladder ladders c) e wait | false ↦ Err (Class (record {})) ]

abbrev pub added : List (List ℕ) → ℕ → ℕ → List (List ℕ)
added ladders c wait = slice_set ladders c (ladder ladders c ++ wait ∷ [])
