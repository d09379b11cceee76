-- Every list of requests has a run, and only one.
use Rattle.std.proofs.Common.{◌≡◌, List, [], ◌∷◌, map, refl, ap, ◌∙◌}
use Rattle.promise.specs.declared.event.Event.{Event}
use Rattle.promise.specs.declared.event.Event.TheVariants.{Head, Lapses, Take, Misses, Clock, Released}
use Rattle.promise.specs.declared.event.Request.{Request}
use Rattle.promise.specs.declared.event.Request.TheVariants as request
use Rattle.promise.specs.Rules.{Rules}
use Rattle.promise.specs.Views.{View}
use Rattle.promise.specs.Runs.{Step, Runs, Answers, after, asked, told, run}

module _ {B : Type 0} where
  answers_told : (m : Rules) (v : View B) (q : Request) → Answers m v (told m v q)
  answers_told m v request.Head = refl
  answers_told m v request.Lapses = refl
  answers_told m v request.Take = refl
  answers_told m v (request.Misses c) = refl
  answers_told m v request.Clock = refl
  answers_told m v request.Released = refl

  told_only : (m : Rules) (v : View B) (e : Event B) → Answers m v e → e ≡ told m v (asked e)
  told_only m v (Head x) a = ap Head a
  told_only m v (Lapses x) a = ap Lapses a
  told_only m v (Take x) a = ap Take a
  told_only m v (Misses c x) a = ap (Misses c) a
  told_only m v (Clock x) a = ap Clock a
  told_only m v (Released x) a = ap Released a

  pub runs_run : (m : Rules) (v : View B) (qs : List Request) → Runs m v (run m v qs)
  runs_run m v [] = tt
  runs_run m v (q ∷ qs) = ((answers_told m v q, refl), runs_run m (after m v (told m v q)) qs)

  pub run_only : (m : Rules) (v : View B) (h : List (Step B)) → Runs m v h → h ≡ run m v (map (λ (s : Step B). asked s.event) h)
  run_only m v [] u = refl
  run_only m v (s ∷ h) u =
      let qs : List Request = map (λ (x : Step B). asked x.event) h in
      let e : s.event ≡ told m v (asked s.event) = told_only m v s.event u.0.0 in
      let w : s.after ≡ after m v (told m v (asked s.event)) = u.0.1 ∙ ap (after m v) e in
      ap (λ l. s ∷ l) (run_only m s.after h u.1)
      ∙ (λ i. record { event = e i; after = w i } ∷ run m (w i) qs)
