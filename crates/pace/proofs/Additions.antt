-- One more step of a class: what the answer says of it, and the table with it in its place.
use Rattle.std.proofs.Common.{◌≡◌, ℕ, ◌<◌, Bool, true, false, List, [], ◌∷◌, ◌++◌, map, length, get_or, set, Ok, Result, refl, ap, ◌∙◌, arith}
use Rattle.std.proofs.lemmas.List.{map-set}
use Rattle.pace.specs.declared.fault.StepFault.{StepFault}
use Rattle.pace.specs.declared.ladder.ClassSteps.{ClassSteps}
use Rattle.pace.specs.Steps.{ladder_of, ladder, added, in_range, in_order}
use Rattle.pace.specs.Ladders.{ladder_of_is}

pub in_range_is : (b : Bool) (r : Result (Unit {0}) StepFault) → in_range b r ≡ Ok tt → (b ≡ true) × (r ≡ Ok tt)
in_range_is true r e = (refl, e)
in_range_is false r e = let z : ◌≡◌ {A = ℕ} 0 1 = cc in absurd (omega arith)

pub in_order_is : (b : Bool) → in_order b ≡ Ok tt → b ≡ true
in_order_is true e = refl
in_order_is false e = let z : ◌≡◌ {A = ℕ} 0 1 = cc in absurd (omega arith)

pub put_step : (cs : List ClassSteps) (c i wait : ℕ) (d t : ClassSteps) → c < length cs → i ≡ c → ladder_of t ≡ ladder_of (get_or cs i d) ++ wait ∷ []
    → map ladder_of (set cs i t) ≡ added (map ladder_of cs) c wait
put_step cs c i wait d t inside at more =
    let old : ladder_of (get_or cs i d) ≡ ladder (map ladder_of cs) c = ap (λ k. ladder_of (get_or cs k d)) at ∙ ladder_of_is cs c d inside in
    map-set ladder_of cs i t ∙ (ap (λ k. set (map ladder_of cs) k (ladder_of t)) at ∙ ap (set (map ladder_of cs) c) (more ∙ ap (λ l. l ++ wait ∷ []) old))
