-- Playing calls one after another: a run so far, and one call more at its end.
use Rattle.std.proofs.Common.{◌≡◌, ℕ, ◌+◌, ◌<◌, ◌≤◌, min, List, [], ◌∷◌, ◌++◌, map, length, get_or, take, drop, set, sym, refl, ap, ◌∙◌, subst, append_assoc, arith}
use lib.ListN.{length-map}
use lib.Seq.{set_at}
use Rattle.std.proofs.lemmas.List.{map-append, length-take-le, take_more, drop_more}
use Rattle.promise.specs.declared.event.Event.{Event}
use Rattle.promise.specs.declared.event.Request.{Request}
use Rattle.promise.specs.Rules.{Rules}
use Rattle.promise.specs.Views.{View}
use Rattle.promise.specs.Runs.{Step, Call, Runs, asked, left, Played}

module _ {B : Type 0} where
  -- one call more at the end of a run
  runs_more : (m : Rules) (v : View B) (h : List (Step B)) (s : Step B) → Runs m v h → Call m (left v h) s.event s.after → Runs m v (h ++ s ∷ [])
  runs_more m v [] s r c = (c, tt)
  runs_more m v (x ∷ h) s r c = (r.0, runs_more m x.after h s r.1 c)

  left_more : (v : View B) (h : List (Step B)) (s : Step B) → s.after ≡ left v (h ++ s ∷ [])
  left_more v [] s = refl
  left_more v (x ∷ h) s = left_more x.after h s

  -- the first n requests were made, and are reported
  pub record Playing (m : Rules) (v w : View B) (requests : List Request) (before after : List (Event B)) (n : ℕ) : Type 0 where
    pub steps : List (Step B)
    pub runs : Runs m v steps
    pub ends : w ≡ left v steps
    pub asks : map (λ (s : Step B). asked s.event) steps ≡ take n requests
    pub reports : after ≡ map (λ (s : Step B). s.event) steps ++ drop n before

  module _ (m : Rules) (v w : View B) (requests : List Request) (before after : List (Event B)) (n : ℕ) (p : Playing m v w requests before after n) where
    long : n ≤ length requests → length (map (λ (s : Step B). s.event) p.steps) ≡ n
    long h =
        length-map p.steps (λ (s : Step B). s.event) ∙ sym (length-map p.steps (λ (s : Step B). asked s.event))
        ∙ ap length p.asks ∙ length-take-le n requests h

    reports_more : (e : Event B) → n < length requests → n < length before
        → set after n e ≡ map (λ (s : Step B). s.event) p.steps ++ e ∷ drop (n + 1) before
    reports_more e hr hb =
        ap (λ xs. set xs n e) (p.reports ∙ ap (λ xs. map (λ (s : Step B). s.event) p.steps ++ xs) (drop_more before n e hb))
        ∙ set_at (map (λ (s : Step B). s.event) p.steps) (get_or before n e) (drop (n + 1) before) e n (long (omega arith))

    pub playing_more : (u : View B) (e : Event B) (q : Request) → n < length requests → n < length before
        → Call m w e u → asked e ≡ get_or requests n q → Playing m v u requests before (set after n e) (n + 1)
    playing_more u e q hr hb call is =
        let s : Step B = record { event = e; after = u } in
        let made : Call m (left v p.steps) e u = subst (λ y. Call m y e u) p.ends call in
        record {
          steps = p.steps ++ s ∷ [];
          runs = runs_more m v p.steps s p.runs made;
          ends = left_more v p.steps s;
          asks =
              map-append (λ (x : Step B). asked x.event) p.steps (s ∷ []) ∙ ap (λ xs. xs ++ asked e ∷ []) p.asks
              ∙ ap (λ y. take n requests ++ y ∷ []) is ∙ sym (take_more requests n q hr);
          reports =
              reports_more e hr hb ∙ sym (append_assoc (map (λ (x : Step B). x.event) p.steps) (e ∷ []) (drop (n + 1) before))
              ∙ ap (λ xs. xs ++ drop (n + 1) before) (sym (map-append (λ (x : Step B). x.event) p.steps (s ∷ [])));
        }

    pub played : n ≡ min (length requests) (length before) → Played m v w requests before after n
    played count = record { count = count; steps = p.steps; runs = p.runs; ends = p.ends; asks = p.asks; reports = p.reports }
