-- One release: what the next reply comes to, and what the gate shows after it.
use Rattle.std.proofs.Common.{◌≡◌, ℕ, ◌⊎◌, List, [], ◌∷◌, Some, None, Option, sym, refl, inl, inr, arith}
use Rattle.source.specs.declared.reply.Reply.{Reply}
use Rattle.source.specs.declared.reply.End.{End}
use Rattle.source.specs.Replies.{Follows, LawfulFrom}
use Rattle.promise.specs.declared.release.Settled.{Settled}
use Rattle.promise.specs.Rules.{Rules, Laws}
use Rattle.promise.specs.Views.{Standing, View, own, all, base, charged, settled, moved, released}
use Rattle.promise.proofs.Sums.{part_of_sum}
use Rattle.promise.proofs.Settling.{risen}
use Rattle.promise.proofs.Standings.{settled_settles}

pub cases_settled : (o : Option Settled) → ((s : Settled) × (o ≡ Some s)) ⊎ (o ≡ None)
cases_settled (Some s) = inl (s, refl)
cases_settled None = inr refl

module _ {B : Type 0} where
  pub view_is : (coming coming' : List (Reply B)) (mark mark' : End) (opening clock : ℕ) (ms ms' : List ℕ) (n n' : ℕ)
      → coming ≡ coming' → mark ≡ mark' → ms ≡ ms' → n ≡ n'
      → ◌≡◌ {A = View B} (record { coming = coming; mark = mark; standing = record { opening = opening; clock = clock; misses = ms }; taken = n })
      (record { coming = coming'; mark = mark'; standing = record { opening = opening; clock = clock; misses = ms' }; taken = n' })
  view_is coming coming' mark mark' opening clock ms ms' n n' a b d e = cc

  pub settled_follows : (m : Rules) → Laws m → (st : Standing) (last : ℕ) (r : Reply B) (s : Settled) → Follows last r → Some s ≡ settled m st r
      → Follows last (moved r s.tick)
  settled_follows m laws st last r s f e =
      let c : ℕ = r.«class» in
      let up = risen m laws c f.known r.ready (base st r.asked) (own st c) (all st) s (part_of_sum st.misses c) (settled_settles m st r s e) in
      record { rises = f.rises; waits = omega (arith, up.rises); within = up.within; known = f.known }

  -- the replies that a gate releases are a lawful list where those below are
  pub released_lawful : (m : Rules) → Laws m → (st : Standing) (last : ℕ) (rs : List (Reply B)) → LawfulFrom last rs → LawfulFrom last (released m st rs)
  released_lawful m laws st last [] l = tt
  released_lawful m laws st last (r ∷ rs) l =
      elim (cases_settled (settled m st r)) [
        | inl h ↦ (let e = h.1 in rw (e, released)
            (settled_follows m laws st last r h.0 l.0 (sym e), released_lawful m laws (charged st r.«class» h.0) r.asked rs l.1))
        | inr e ↦ rw (e, released) tt
      ]
