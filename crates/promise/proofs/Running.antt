-- From a list of calls to the replies taken: what a run leaves, from any start on.
use Rattle.std.proofs.Common.{◌≡◌, ℕ, zero, suc, ◌+◌, ◌-◌, ◌<◌, ◌≤◌, eqb, List, [], ◌∷◌, length, take, drop, sym, refl, ap, ◌∙◌, subst, inl, inr, arith}
use Rattle.std.proofs.lemmas.Bool.{cases_eq, eq-eqb, ne_eqb}
use Rattle.std.proofs.lemmas.List.{get_or-set_same, get_or-set_other}
use Rattle.source.specs.declared.reply.Reply.{Reply}
use Rattle.source.specs.Replies.{LawfulFrom}
use Rattle.promise.specs.declared.release.Settled.{Settled}
use Rattle.promise.specs.Rules.{Rules, Laws}
use Rattle.promise.specs.Leaks.{share}
use Rattle.promise.specs.Views.{Standing, View, own, all, charged, moved, released, SettlesAt}
use Rattle.promise.specs.Runs.{Turn, Took, Declined, Looked, Step, Runs, turn, replies, replies_by, ticks_of, miss_record, record_by, takes, takes_by, left}
use Rattle.promise.specs.Promise.{Freed, All, Tallied, last_or, record_of}
use Rattle.promise.proofs.Sums.{sum_set}
use Rattle.promise.proofs.Settling.{settles_ready}
use Rattle.promise.proofs.Standings.{Sound, sound_charged, settled_settles}
use Rattle.promise.proofs.Calls.{Takes, Turned, turned, passed, released_some}

-- every reply has a class up to 7
abbrev pub Known : {B : Type 0} → List (Reply B) → Type 0
Known {B} rs = All (λ (r : Reply B). r.«class» ≤ 7) rs

-- What a run from v to u has taken: the replies xs with the misses ks, in n takes.
pub record Outcome {B : Type 0} (m : Rules) (o : ℕ) (z : ℕ → ℕ) (v u : View B) (xs : List (Reply B)) (ks : List ℕ) (n : ℕ) : Type 0 where
  pub freed : Freed m v.standing v.coming xs ks
  pub each : xs ≡ take n (released m v.standing v.coming)
  pub sound : Sound m o z u.standing
  pub clock : u.standing.clock ≡ last_or v.standing.clock (ticks_of xs)
  pub taken : u.taken ≡ v.taken + length xs
  pub misses : (c : ℕ) → own u.standing c ≡ own v.standing c + record_of c xs ks
  pub coming : u.coming ≡ drop (length xs) v.coming
  pub mark : u.mark ≡ v.mark
  pub opening : u.standing.opening ≡ v.standing.opening

module _ {B : Type 0} where
  pub known_lawful : (last : ℕ) (rs : List (Reply B)) → LawfulFrom last rs → Known rs
  known_lawful last [] l = tt
  known_lawful last (r ∷ rs) l = (l.0.known, known_lawful r.asked rs l.1)

  freed_first : (m : Rules) (st : Standing) (r : Reply B) (rs : List (Reply B)) (x : Reply B) (xs : List (Reply B)) (k : ℕ) (ks : List ℕ) (s : Settled)
      → x ≡ moved r s.tick → k ≡ s.misses → SettlesAt m st r s.misses s.tick → Freed m (charged st r.«class» s) rs xs ks
      → Freed m st (r ∷ rs) (x ∷ xs) (k ∷ ks)
  freed_first m st r rs x xs k ks s ex ek by f =
      subst (λ y. Freed m st (r ∷ rs) (y ∷ xs) (k ∷ ks)) (sym ex)
      (subst (λ i. Freed m st (r ∷ rs) (moved r s.tick ∷ xs) (i ∷ ks)) (sym ek)
      (refl, settles_ready m r.«class» r.ready _ _ _ s.misses s.tick by, by, f))

  -- a class's misses grow by what the release of its reply charged
  own_charged : (st : Standing) (r x : Reply B) (s : Settled) (c k : ℕ) → r.«class» < length st.misses → x ≡ moved r s.tick → k ≡ s.misses
      → own (charged st r.«class» s) c ≡ own st c + share k (eqb c x.«class»)
  own_charged st r x s c k inside ex ek =
      let ec : x.«class» ≡ r.«class» = ap (λ (y : Reply B). y.«class») ex in
      elim (cases_eq c r.«class») [
        | inl e ↦
            (let a : own (charged st r.«class» s) c ≡ own st r.«class» + s.misses
            = ap (own (charged st r.«class» s)) e ∙ get_or-set_same st.misses r.«class» (own st r.«class» + s.misses) 0 inside in
            let b : share k (eqb c x.«class») ≡ k = ap (share k) (eq-eqb c x.«class» (e ∙ sym ec)) in
            let d : own st c ≡ own st r.«class» = ap (own st) e in
            omega (arith, a, b, d, ek))
        | inr ne ↦
            (let a : own (charged st r.«class» s) c ≡ own st c = get_or-set_other st.misses r.«class» c (own st r.«class» + s.misses) 0 ne in
            let b : share k (eqb c x.«class») ≡ 0 = ap (share k) (ne_eqb c x.«class» (λ q. ne (q ∙ ec))) in
            omega (arith, a, b))
      ]

  take_none : (n : ℕ) → take {A = Reply B} n [] ≡ []
  take_none zero = refl
  take_none (suc n) = refl

  module _ (m : Rules) (laws : Laws m) (o : ℕ) (z : ℕ → ℕ) where
    took : (v w u : View B) (x : Reply B) (xs : List (Reply B)) (ks : List ℕ) (n : ℕ)
        → Sound m o z v.standing → Known v.coming → Takes m v w x
        → (Sound m o z w.standing → Known w.coming → Outcome m o z w u xs ks n)
        → Outcome m o z v u (x ∷ xs) ((all w.standing - all v.standing) ∷ ks) (suc n)
    took v w u x xs ks n sound known g ih =
        let r : Reply B = g.head in
        let s : Settled = g.by in
        let st : Standing = v.standing in
        let a : View B = passed v r g.rest s in
        let e : w ≡ a = g.after_is in
        let each_known : Known (r ∷ g.rest) = subst Known g.list_is known in
        let by : SettlesAt m st r s.misses s.tick = settled_settles m st r s (sym g.settled_is) in
        let out : Outcome m o z a u xs ks n
        = subst (λ y. Outcome m o z y u xs ks n) e
        (ih (subst (λ (y : View B). Sound m o z y.standing) (sym e) (sound_charged m laws o z st sound r each_known.0 s by).0)
        (subst (λ (y : View B). Known y.coming) (sym e) each_known.1)) in
        let inside : r.«class» < length st.misses = omega (arith, sound.size, each_known.0) in
        let k : ℕ = all w.standing - all st in
        let ek : k ≡ s.misses
        = ap (λ (y : View B). all y.standing - all st) e ∙ (let grown = sum_set st.misses r.«class» s.misses inside in omega (arith, grown)) in
        let ex : x.ready ≡ s.tick = ap (λ (y : Reply B). y.ready) g.answer_is in
        record {
          freed = subst (λ l. Freed m st l (x ∷ xs) (k ∷ ks)) (sym g.list_is)
              (freed_first m st r g.rest x xs k ks s g.answer_is ek by out.freed);
          each = ap (λ y. y ∷ xs) g.answer_is ∙ ap (λ ys. moved r s.tick ∷ ys) out.each
              ∙ ap (take (suc n)) (sym (released_some m st r g.rest s g.settled_is) ∙ ap (released m st) (sym g.list_is));
          sound = out.sound;
          clock = out.clock ∙ ap (λ t. last_or t (ticks_of xs)) (sym ex);
          taken = omega (arith, out.taken);
          misses = λ c. omega (arith, out.misses c, own_charged st r x s c k inside g.answer_is ek);
          coming = out.coming ∙ ap (drop (suc (length xs))) (sym g.list_is);
          mark = out.mark;
          opening = out.opening;
        }

    stepped : (v w u : View B) (t : Turn B) (xs : List (Reply B)) (ks : List ℕ) (n : ℕ)
        → Sound m o z v.standing → Known v.coming → Turned m v w t
        → (Sound m o z w.standing → Known w.coming → Outcome m o z w u xs ks n)
        → Outcome m o z v u (replies_by t xs) (record_by t (all w.standing - all v.standing) ks) (takes_by t n)
    stepped v w u (Took x) xs ks n sound known g ih = took v w u x xs ks n sound known g ih
    stepped v w u Declined xs ks n sound known g ih =
        let e : w ≡ v = g.0 in
        let out : Outcome m o z v u xs ks n
        = subst (λ y. Outcome m o z y u xs ks n) e
        (ih (subst (λ (y : View B). Sound m o z y.standing) (sym e) sound) (subst (λ (y : View B). Known y.coming) (sym e) known)) in
        record {
          freed = out.freed;
          each = out.each ∙ ap (take n) g.1 ∙ take_none n ∙ ap (take (suc n)) (sym g.1);
          sound = out.sound;
          clock = out.clock;
          taken = out.taken;
          misses = out.misses;
          coming = out.coming;
          mark = out.mark;
          opening = out.opening;
        }
    stepped v w u Looked xs ks n sound known e ih =
        subst (λ y. Outcome m o z y u xs ks n) e
        (ih (subst (λ (y : View B). Sound m o z y.standing) (sym e) sound) (subst (λ (y : View B). Known y.coming) (sym e) known))

    pub outcome : (v : View B) (h : List (Step B)) → Sound m o z v.standing → Known v.coming → Runs m v h
        → Outcome m o z v (left v h) (replies h) (miss_record v h) (takes h)
    outcome v [] sound known u =
        record {
          freed = tt;
          each = refl;
          sound = sound;
          clock = refl;
          taken = omega arith;
          misses = λ c. omega arith;
          coming = refl;
          mark = refl;
          opening = refl;
        }
    outcome v (s ∷ h) sound known u =
        stepped v s.after (left s.after h) (turn s.event) (replies h) (miss_record s.after h) (takes h) sound known
        (turned m v s.event s.after u.0) (λ sw kw. outcome s.after h sw kw u.1)

  pub tallied : (m : Rules) (o : ℕ) (z : ℕ → ℕ) (v : View B) (h : List (Step B))
      → Outcome m o z v (left v h) (replies h) (miss_record v h) (takes h) → Tallied v h
  tallied m o z v h out =
      record {
        clock = out.clock;
        taken = out.taken;
        misses = out.misses;
        coming = out.coming;
        mark = out.mark;
        opening = out.opening;
      }
