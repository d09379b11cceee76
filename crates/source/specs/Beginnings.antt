-- The longest lawful beginning of what is left of a list, read from a place on.
use Rattle.std.specs.Prelude.{◌≡◌, ℕ, ◌+◌, ◌≤◌, Bool, true, false, List, [], ◌∷◌, ◌++◌, length, take, drop, Some, None, Ok, Err, Option, Result, nat_le, refl}
use Rattle.std.proofs.Common.{sym, ◌∙◌, ap, subst, inl, inr, arith, length-take, length-drop}
use Rattle.std.specs.List.{slice_get}
use Rattle.std.specs.Bool.{then_some}
use Rattle.std.specs.Option.{MatchOption, ok_or}
use Rattle.std.proofs.lemmas.List.{drop-drop}
use Rattle.std.proofs.lemmas.Bool.{and_parts, leb-true, le-leb, cases_Bool}
use Rattle.source.specs.declared.reply.Reply.{Reply}
use Rattle.source.specs.declared.reply.End.{End}
use Rattle.source.specs.declared.reply.End.TheVariants.{Dry}
use Rattle.source.specs.declared.trace.Trace.{Trace}
use Rattle.source.specs.Replies.{Follows, LawfulFrom, Lawful, first, follows, beginning, LongestLawful}
use Rattle.source.specs.Traces.{shown, NextOf, Next}
use Rattle.source.specs.Places.{drop_some, drop_none}

module _ {B : Type 0} where
  pub follows_so : (last : ℕ) (r : Reply B) → follows last r ≡ true → Follows last r
  follows_so last r e =
      let p = and_parts (nat_le last r.asked) _ e in
      let q = and_parts (nat_le r.asked r.ready) _ p.1 in
      let s = and_parts (nat_le r.ready 1000000000) _ q.1 in
      record {
        rises = leb-true last r.asked p.0;
        waits = leb-true r.asked r.ready q.0;
        within = leb-true r.ready 1000000000 s.0;
        known = leb-true r.«class» 7 s.1;
      }

  pub begins : (last : ℕ) (r : Reply B) (rs : List (Reply B)) → follows last r ≡ true → beginning last (r ∷ rs) ≡ r ∷ beginning r.asked rs
  begins last r rs e = rw (e, beginning) refl

  pub stops : (last : ℕ) (r : Reply B) (rs : List (Reply B)) → follows last r ≡ false → beginning last (r ∷ rs) ≡ []
  stops last r rs e = rw (e, beginning) refl

  pub beginning_lawful : (last : ℕ) (rs : List (Reply B)) → LawfulFrom last (beginning last rs)
  beginning_lawful last [] = tt
  beginning_lawful last (r ∷ rs) =
      elim (cases_Bool (follows last r)) [
        | inl e ↦ rw (begins last r rs e) (follows_so last r e, beginning_lawful r.asked rs)
        | inr e ↦ rw (stops last r rs e) tt
      ]

  pub beginning_begins : (last : ℕ) (rs : List (Reply B)) → (more : List (Reply B)) × (rs ≡ beginning last rs ++ more)
  beginning_begins last [] = ([], refl)
  beginning_begins last (r ∷ rs) =
      let tail = beginning_begins r.asked rs in
      elim (cases_Bool (follows last r)) [
        | inl e ↦ (tail.0, ap (λ l. r ∷ l) tail.1 ∙ sym (ap (λ l. l ++ tail.0) (begins last r rs e)))
        | inr e ↦ (r ∷ rs, sym (ap (λ l. l ++ (r ∷ rs)) (stops last r rs e)))
      ]

  so_follows : (last : ℕ) (r : Reply B) → Follows last r → follows last r ≡ true
  so_follows last r f = rw (le-leb last r.asked f.rises, le-leb r.asked r.ready f.waits, le-leb r.ready 1000000000 f.within, le-leb r.«class» 7 f.known) refl

  pub beginning_longest : (last : ℕ) (us vs : List (Reply B)) → LawfulFrom last us → length us ≤ length (beginning last (us ++ vs))
  beginning_longest last [] vs l = omega arith
  beginning_longest last (u ∷ us) vs l = rw (begins last u (us ++ vs) (so_follows last u l.0)) (omega (arith, beginning_longest u.asked us vs l.1))

  pub longest_lawful : (rs : List (Reply B)) → LongestLawful rs (beginning 0 rs)
  longest_lawful rs =
      record {
        begins = beginning_begins 0 rs;
        lawful = beginning_lawful 0 rs;
        longest = λ us vs e l. subst (λ m. length us ≤ length (beginning 0 m)) (sym e) (beginning_longest 0 us vs l);
      }

  -- what stands at the place that is read next
  module _ (rs : List (Reply B)) (k last : ℕ) (e : End) where
    pub head_lawful : (r : Reply B) → slice_get rs k ≡ Some r → follows last r ≡ true → Ok r ≡ first (beginning last (drop k rs)) e
    head_lawful r at ok = rw (drop_some rs k r at, begins last r (drop (k + 1) rs) ok) refl

    pub head_unlawful : (r : Reply B) → slice_get rs k ≡ Some r → follows last r ≡ false → Err e ≡ first (beginning last (drop k rs)) e
    head_unlawful r at bad = rw (drop_some rs k r at, stops last r (drop (k + 1) rs) bad) refl

    pub head_none : slice_get rs k ≡ None → Err e ≡ first (beginning last (drop k rs)) e
    head_none at = rw (drop_none rs k at) refl

  -- the same, kept if it follows
  abbrev pub kept : Option (Reply B) → ℕ → Option (Reply B)
  kept None last = None
  kept (Some r) last = then_some (follows last r) r

  pub head_kept : (rs : List (Reply B)) (k last : ℕ) (e : End) (at got : Option (Reply B)) (r : Result (Reply B) End)
      → at ≡ slice_get rs k → got ≡ kept at last → r ≡ ok_or got e → r ≡ first (beginning last (drop k rs)) e
  head_kept rs k last e at got r here so is = is ∙ (ap (λ o. ok_or o e) so ∙ by_case at here)
    where
      by_case : (o : Option (Reply B)) → o ≡ slice_get rs k → ok_or (kept o last) e ≡ first (beginning last (drop k rs)) e
      by_case None at = rw (drop_none rs k (sym at)) refl
      by_case (Some x) at =
          elim (cases_Bool (follows last x)) [
            | inl ok ↦ rw (drop_some rs k x (sym at), begins last x (drop (k + 1) rs) ok, ok) refl
            | inr bad ↦ rw (drop_some rs k x (sym at), stops last x (drop (k + 1) rs) bad, bad) refl
          ]

  -- the library's filter keeps it so
  pub filter_keeps : (last : ℕ) (at r : Option (Reply B)) (Says : Reply B → Bool → Type 0) → ((x : Reply B) (b : Bool) → Says x b → b ≡ follows last x)
      → MatchOption at (r ≡ None) (λ x. (b : Bool) × Says x b × (r ≡ then_some b x)) → r ≡ kept at last
  filter_keeps last None r Says says h = h
  filter_keeps last (Some x) r Says says h = h.2 ∙ ap (λ b. then_some b x) (says x h.0 h.1)

  pub first_lawful : (rs : List (Reply B)) (last : ℕ) (e : End) (r : Reply B) → Ok r ≡ first (beginning last rs) e
      → (rs ≡ r ∷ drop 1 rs) × (follows last r ≡ true)
  first_lawful [] last e r h = let z : ◌≡◌ {A = ℕ} 0 1 = cc in absurd (omega arith)
  first_lawful (x ∷ rs) last e r h =
      elim (cases_Bool (follows last x)) [
        | inl ok ↦ let s : r ≡ x = ok_same (h ∙ ap (λ l. first l e) (begins last x rs ok)) in (ap (λ a. a ∷ rs) (sym s), rw s ok)
        | inr bad ↦ absurd (never (h ∙ ap (λ l. first l e) (stops last x rs bad)))
      ]
    where
      ok_same : {a b : Reply B} → ◌≡◌ {A = Result (Reply B) End} (Ok a) (Ok b) → a ≡ b
      ok_same p = cc

      never : {a : Reply B} {d : End} → ◌≡◌ {A = Result (Reply B) End} (Ok a) (Err d) → ⊥
      never p = let z : ◌≡◌ {A = ℕ} 0 1 = cc in omega arith

  -- a reply that was read: its place is inside the list, and what is left begins after it
  pub next_of : {R : Type 0} (held : List (Reply B)) (t : Trace R) (r : Result (Reply B) End) → r ≡ first (shown held t) Dry → NextOf held t r
  next_of held t (Err e) h = tt
  next_of held t (Ok r) h =
      let rs = take 50000 held in
      let p = first_lawful (drop t.taken rs) t.last Dry r h in
      let here : drop t.taken rs ≡ r ∷ drop (t.taken + 1) rs = p.0 ∙ ap (λ l. r ∷ l) (drop-drop 1 t.taken rs) in
      let n : length (drop t.taken rs) ≡ length (r ∷ drop (t.taken + 1) rs) = ap length here in
      record {
        inside = omega (arith, simp length-drop at n, length-take 50000 held);
        others = ap (beginning t.last) here ∙ begins t.last r (drop (t.taken + 1) rs) p.1;
      }

  pub next_is : {R : Type 0} (held : List (Reply B)) (t : Trace R) (r : Reply B) → Ok r ≡ first (shown held t) Dry → Next held t r
  next_is held t r h = next_of held t (Ok r) h

  -- a list that may follow some reply may stand alone
  pub lawful_alone : (last : ℕ) (rs : List (Reply B)) → LawfulFrom last rs → Lawful rs
  lawful_alone last [] l = tt
  lawful_alone last (r ∷ rs) l = (record { rises = omega arith; waits = l.0.waits; within = l.0.within; known = l.0.known }, l.1)
