-- A run with its bodies left out is a run, with the same release list and miss record.
use Rattle.std.proofs.Common.{◌≡◌, ℕ, ◌-◌, List, [], ◌∷◌, map, Some, None, Ok, Err, Option, sym, refl, ap, ◌∙◌}
use Rattle.source.specs.declared.reply.Reply.{Reply}
use Rattle.source.specs.declared.reply.End.{End}
use Rattle.source.specs.Replies.{Lawful, LawfulFrom}
use Rattle.promise.specs.declared.event.Event.{Event}
use Rattle.promise.specs.declared.event.Event.TheVariants.{Head, Lapses, Take, Misses, Clock, Released}
use Rattle.promise.specs.declared.release.Settled.{Settled}
use Rattle.promise.specs.Rules.{Rules}
use Rattle.promise.specs.Views.{View, all, opened, settled, release_by, release_from, reply_of, misses_of, next_by, next_from}
use Rattle.promise.specs.Runs.{Turn, Took, Declined, Looked, Step, Runs, Answers, after, turn, replies, replies_by, ticks_of, release_list, miss_record, record_by}
use Rattle.promise.specs.Bodies.{bare, bare_view, bare_answer, bare_event, bare_step}
use Rattle.promise.specs.Promise.{Bodiless, key_of, keys_of}

module _ {B : Type 0} where
  abbrev bare_turn : Turn B → Turn (Unit {0})
  bare_turn (Took r) = Took (bare r)
  bare_turn Declined = Declined
  bare_turn Looked = Looked

  -- no answer depends on a body
  settled_bare : (m : Rules) (v : View B) (r : Reply B) → settled m v.standing (bare r) ≡ settled m v.standing r
  unfolding settled
  settled_bare m v r = refl

  reply_by : (o : Option Settled) (r : Reply B) → reply_of (release_by o (bare r)) ≡ bare_answer (reply_of (release_by o r))
  reply_by (Some s) r = refl
  reply_by None r = refl

  answer_bare : (m : Rules) (v : View B) (rs : List (Reply B)) → reply_of (release_from m (bare_view v) (map bare rs)) ≡ bare_answer (reply_of (release_from m v rs))
  answer_bare m v [] = refl
  answer_bare m v (r ∷ rs) =
      ap (λ o. reply_of (release_by o (bare r))) (settled_bare m v r) ∙ reply_by (settled m v.standing r) r

  misses_by : (o : Option Settled) (r : Reply B) → misses_of (release_by o (bare r)) ≡ misses_of (release_by o r)
  misses_by (Some s) r = refl
  misses_by None r = refl

  lapses_bare : (m : Rules) (v : View B) (rs : List (Reply B)) → misses_of (release_from m (bare_view v) (map bare rs)) ≡ misses_of (release_from m v rs)
  lapses_bare m v [] = refl
  lapses_bare m v (r ∷ rs) =
      ap (λ o. misses_of (release_by o (bare r))) (settled_bare m v r) ∙ misses_by (settled m v.standing r) r

  next_by_is : (o : Option Settled) (v : View B) (r : Reply B) (rs : List (Reply B)) → next_by o (bare_view v) (bare r) (map bare rs) ≡ bare_view (next_by o v r rs)
  next_by_is (Some s) v r rs = refl
  next_by_is None v r rs = refl

  next_bare : (m : Rules) (v : View B) (rs : List (Reply B)) → next_from m (bare_view v) (map bare rs) ≡ bare_view (next_from m v rs)
  next_bare m v [] = refl
  next_bare m v (r ∷ rs) =
      ap (λ o. next_by o (bare_view v) (bare r) (map bare rs)) (settled_bare m v r) ∙ next_by_is (settled m v.standing r) v r rs

  answers_bare : (m : Rules) (v : View B) (e : Event B) → Answers m v e → Answers m (bare_view v) (bare_event e)
  answers_bare m v (Head x) a = ap bare_answer a ∙ sym (answer_bare m v v.coming)
  answers_bare m v (Lapses x) a = a ∙ sym (lapses_bare m v v.coming)
  answers_bare m v (Take x) a = ap bare_answer a ∙ sym (answer_bare m v v.coming)
  answers_bare m v (Misses c x) a = a
  answers_bare m v (Clock x) a = a
  answers_bare m v (Released x) a = a

  after_bare : (m : Rules) (v : View B) (e : Event B) → after m (bare_view v) (bare_event e) ≡ bare_view (after m v e)
  after_bare m v (Head x) = refl
  after_bare m v (Lapses x) = refl
  after_bare m v (Take x) = next_bare m v v.coming
  after_bare m v (Misses c x) = refl
  after_bare m v (Clock x) = refl
  after_bare m v (Released x) = refl

  runs_bare : (m : Rules) (v : View B) (h : List (Step B)) → Runs m v h → Runs m (bare_view v) (map bare_step h)
  runs_bare m v [] u = tt
  runs_bare m v (s ∷ h) u =
      ((answers_bare m v s.event u.0.0, ap bare_view u.0.1 ∙ sym (after_bare m v s.event)), runs_bare m s.after h u.1)

  -- a call does the same without its body
  turn_bare : (e : Event B) → turn (bare_event e) ≡ bare_turn (turn e)
  turn_bare (Head x) = refl
  turn_bare (Lapses x) = refl
  turn_bare (Take (Ok x)) = refl
  turn_bare (Take (Err e)) = refl
  turn_bare (Misses c x) = refl
  turn_bare (Clock x) = refl
  turn_bare (Released x) = refl

  ticks_by : (t : Turn B) (xs : List (Reply B)) (ys : List (Reply (Unit {0}))) → ticks_of ys ≡ ticks_of xs
      → ticks_of (replies_by (bare_turn t) ys) ≡ ticks_of (replies_by t xs)
  ticks_by (Took r) xs ys e = ap (λ ts. r.ready ∷ ts) e
  ticks_by Declined xs ys e = e
  ticks_by Looked xs ys e = e

  releases_bare : (h : List (Step B)) → release_list (map bare_step h) ≡ release_list h
  releases_bare [] = refl
  releases_bare (s ∷ h) =
      ap (λ t. ticks_of (replies_by t (replies (map bare_step h)))) (turn_bare s.event)
      ∙ ticks_by (turn s.event) (replies h) (replies (map bare_step h)) (releases_bare h)

  record_by_is : (t : Turn B) (k : ℕ) (ks : List ℕ) → record_by (bare_turn t) k ks ≡ record_by t k ks
  record_by_is (Took r) k ks = refl
  record_by_is Declined k ks = refl
  record_by_is Looked k ks = refl

  misses_bare : (v : View B) (h : List (Step B)) → miss_record (bare_view v) (map bare_step h) ≡ miss_record v h
  misses_bare v [] = refl
  misses_bare v (s ∷ h) =
      let k : ℕ = all s.after.standing - all v.standing in
      ap (λ t. record_by t k (miss_record (bare_view s.after) (map bare_step h))) (turn_bare s.event)
      ∙ record_by_is (turn s.event) k (miss_record (bare_view s.after) (map bare_step h))
      ∙ ap (record_by (turn s.event) k) (misses_bare s.after h)

  lawful_bare : (last : ℕ) (rs : List (Reply B)) → LawfulFrom last rs → LawfulFrom last (map bare rs)
  lawful_bare last [] l = tt
  lawful_bare last (r ∷ rs) l =
      (record { rises = l.0.rises; waits = l.0.waits; within = l.0.within; known = l.0.known }, lawful_bare r.asked rs l.1)

  keys_bare : (rs : List (Reply B)) → keys_of (map bare rs) ≡ keys_of rs
  keys_bare [] = refl
  keys_bare (r ∷ rs) = ap (λ ks. key_of r ∷ ks) (keys_bare rs)

  pub bodiless : (m : Rules) (rs : List (Reply B)) → Lawful rs → (e : End) (o : ℕ) (h : List (Step B)) → Runs m (opened rs e o) h → Bodiless m rs e o h
  bodiless m rs l e o h u =
      record {
        lawful = lawful_bare 0 rs l;
        keys = keys_bare rs;
        runs = runs_bare m (opened rs e o) h u;
        releases = releases_bare h;
        misses = misses_bare (opened rs e o) h;
      }
