-- The list that a gate computes is the one that the rules give, and no other list is.
use Rattle.std.proofs.Common.{◌≡◌, ℕ, ◌≤◌, List, [], ◌∷◌, Some, None, Option, sym, refl, ap, ◌∙◌, subst, arith}
use Rattle.source.specs.declared.reply.Reply.{Reply}
use Rattle.source.specs.Replies.{horizon, LawfulFrom}
use Rattle.promise.specs.declared.release.Settled.{Settled}
use Rattle.promise.specs.Rules.{Rules, Laws}
use Rattle.promise.specs.Views.{Standing, own, all, base, charged, settled, moved, released, SettlesAt, PassesAt}
use Rattle.promise.specs.Promise.{Listed, stands}
use Rattle.promise.proofs.Sums.{part_of_sum}
use Rattle.promise.proofs.Settling.{settles_settle, passes_settle, misses_few}
use Rattle.promise.proofs.Standings.{Sound, sound_charged, settled_settles, settled_passes}
use Rattle.promise.proofs.Calls.{released_some, released_none}
use Rattle.promise.proofs.Running.{Known}

module _ {B : Type 0} where
  module _ (m : Rules) (laws : Laws m) where
    listed_by : (o : ℕ) (z : ℕ → ℕ) (st : Standing) → Sound m o z st → (r : Reply B) → r.«class» ≤ 7 → r.asked ≤ horizon → (rs : List (Reply B))
        → ((next : Standing) → Sound m o z next → Listed m next rs (released m next rs))
        → (x : Option Settled) → settled m st r ≡ x → Listed m st (r ∷ rs) (released m st (r ∷ rs))
    listed_by o z st sound r hc hr rs ih (Some s) e =
        let by : SettlesAt m st r s.misses s.tick = settled_settles m st r s (sym e) in
        subst (Listed m st (r ∷ rs)) (sym (released_some m st r rs s e))
        (s.misses, refl, by, ih (charged st r.«class» s) (sound_charged m laws o z st sound r hc s by).0)
    listed_by o z st sound r hc hr rs ih None e =
        subst (Listed m st (r ∷ rs)) (sym (released_none m st r rs e)) (settled_passes m laws st sound.within r hc hr (sym e))

    pub listed : (o : ℕ) (z : ℕ → ℕ) (st : Standing) → Sound m o z st → (last : ℕ) (rs : List (Reply B)) → LawfulFrom last rs
        → Listed m st rs (released m st rs)
    listed o z st sound last [] l = tt
    listed o z st sound last (r ∷ rs) l =
        listed_by o z st sound r l.0.known (omega (arith, l.0.waits, l.0.within)) rs
        (λ next sn. listed o z next sn r.asked rs l.1) (settled m st r) refl

    -- what the rules give is what is computed
    pub settles_settled : (st : Standing) (r : Reply B) → r.«class» ≤ 7 → (s : Settled) → SettlesAt m st r s.misses s.tick → settled m st r ≡ Some s
    unfolding settled
    settles_settled st r hc s by =
        let part = part_of_sum st.misses r.«class» in
        let few = misses_few m laws r.«class» hc r.ready (base st r.asked) (own st r.«class») (all st) s.misses s.tick part by in
        sym (settles_settle 30 m r.«class» r.ready (base st r.asked) (own st r.«class») (all st) s by (omega (arith, few)))

    pub passes_settled : (st : Standing) (r : Reply B) (k : ℕ) → PassesAt m st r k → settled m st r ≡ None
    unfolding settled
    passes_settled st r k by = sym (passes_settle 30 m r.«class» r.ready (base st r.asked) (own st r.«class») (all st) k by)

    pub listed_only : (st : Standing) (rs xs : List (Reply B)) → Known rs → Listed m st rs xs → xs ≡ released m st rs
    listed_only st [] [] known g = refl
    listed_only st [] (x ∷ xs) known g = elim g [ ]
    listed_only st (r ∷ rs) [] known g = sym (released_none m st r rs (passes_settled st r g.0 g.1))
    listed_only st (r ∷ rs) (x ∷ xs) known g =
        let s : Settled = record { tick = x.ready; misses = g.0 } in
        ap (λ y. y ∷ xs) g.1
        ∙ ap (λ ys. moved r s.tick ∷ ys) (listed_only (stands st r g.0 x.ready) rs xs known.1 g.3)
        ∙ sym (released_some m st r rs s (settles_settled st r known.0 s g.2))
