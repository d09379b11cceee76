-- What a release leaves of the ledger at hand.
use Rattle.std.proofs.Common.{◌≡◌, ℕ, suc, ◌+◌, ◌-◌, ◌^◌, ◌≤◌, List, [], ◌∷◌, Some, None, Ok, Option, sym, refl, ap, subst, arith}
use Rattle.source.specs.declared.reply.Reply.{Reply}
use Rattle.source.specs.declared.reply.End.{End}
use Rattle.source.specs.Replies.{Lawful, rest}
use Rattle.promise.specs.declared.release.Release.{Release}
use Rattle.promise.specs.declared.release.Settled.{Settled}
use Rattle.promise.specs.Rules.{Rules, Laws}
use Rattle.promise.specs.Views.{View, own, all, base, charged, settled, moved, release_by, release_from, release, next_by, next_from, Timely}
use Rattle.promise.proofs.Sums.{part_of_sum}
use Rattle.promise.proofs.Settling.{Risen, risen}
use Rattle.promise.proofs.Standings.{settled_settles}
use Rattle.gate.specs.declared.ledger.Ledger.{Ledger}
use Rattle.gate.specs.Rows.{misses_at, misses_in}
use Rattle.gate.specs.Gates.{standing_of}
use Rattle.gate.proofs.Rows.{misses_at_is, few_between}

module _ {B : Type 0} where
  -- what a release was settled to
  abbrev pub settled_of : Release B → Settled
  settled_of x = record { tick = x.reply.ready; misses = x.misses }

  -- a release, and what the ledger is charged by it
  pub record Leaves (l : Ledger) (x : Release B) : Type 0 where
    pub known : x.reply.«class» ≤ 7
    pub up : Risen (base (standing_of l) x.reply.asked) (misses_at l.rows x.reply.«class») (settled_of x)
    pub slow : 2 ^ (misses_at l.rows x.reply.«class» + x.misses) - 1 ≤ x.reply.ready - l.opening

  leaves_settled : (m : Rules) → Laws m → (l : Ledger) (r : Reply B) (s : Settled) → r.«class» ≤ 7 → Some s ≡ settled m (standing_of l) r
      → Leaves l (record { reply = moved r s.tick; misses = s.misses })
  leaves_settled m laws l r s hc e =
      let c : ℕ = r.«class» in
      let from = base (standing_of l) r.asked in
      let st = settled_settles m (standing_of l) r s e in
      let up : Risen from (misses_at l.rows c) s
      = subst (λ n. Risen from n s) (sym (misses_at_is l.rows c))
      (risen m laws c hc r.ready from (own (standing_of l) c) (all (standing_of l)) s (part_of_sum (misses_in l.rows) c) st) in
      record { known = hc; up = up; slow = omega (arith, up.doubled, up.rises, l.charged c (omega arith), l.after) }

  leaves_by : (m : Rules) → Laws m → (l : Ledger) (r : Reply B) → r.«class» ≤ 7 → (o : Option Settled) → o ≡ settled m (standing_of l) r
      → (x : Release B) → Ok x ≡ release_by o r → Leaves l x
  leaves_by m laws l r hc (Some s) is x e =
      let same : record { reply = moved r s.tick; misses = s.misses } ≡ x = cc in
      subst (Leaves l) same (leaves_settled m laws l r s hc is)
  leaves_by m laws l r hc None is x e = absurd (let z : ◌≡◌ {A = ℕ} 0 1 = cc in omega arith)

  pub leaves : (m : Rules) → Laws m → (l : Ledger) (rs : List (Reply B)) (mark : End) (n : ℕ) → Lawful rs → (x : Release B)
      → Ok x ≡ release m (record { coming = rs; mark = mark; standing = standing_of l; taken = n }) → Leaves l x
  leaves m laws l [] mark n lawful x e = absurd (let z : ◌≡◌ {A = ℕ} 0 1 = cc in omega arith)
  leaves m laws l (r ∷ rs) mark n lawful x e = leaves_by m laws l r lawful.0.known (settled m (standing_of l) r) refl x e

  pub timely : (l : Ledger) (x : Release B) → Leaves l x → Timely l.clock x
  timely l x k =
      let n : misses_at l.rows x.reply.«class» + x.misses ≤ 29
      = few_between _ l.opening x.reply.ready k.slow k.up.within in
      record {
        asked = omega (arith, k.up.rises);
        after = omega (arith, k.up.rises);
        within = k.up.within;
        known = k.known;
        few = omega (arith, n);
      }

  -- the view after a release
  next_by_is : (o : Option Settled) (v : View B) (r : Reply B) (rs : List (Reply B)) (x : Release B) → Ok x ≡ release_by o r
      → ◌≡◌ {A = View B} (record { coming = rs; mark = v.mark; standing = charged v.standing x.reply.«class» (settled_of x); taken = suc v.taken })
      (next_by o v r rs)
  next_by_is (Some s) v r rs x e =
      let same : record { reply = moved r s.tick; misses = s.misses } ≡ x = cc in
      ap (λ (y : Release B). record { coming = rs; mark = v.mark; standing = charged v.standing y.reply.«class» (settled_of y); taken = suc v.taken }) (sym same)
  next_by_is None v r rs x e = absurd (let z : ◌≡◌ {A = ℕ} 0 1 = cc in omega arith)

  pub next_after : (m : Rules) (v : View B) (rs : List (Reply B)) (x : Release B) → Ok x ≡ release_from m v rs
      → ◌≡◌ {A = View B} (record { coming = rest rs; mark = v.mark; standing = charged v.standing x.reply.«class» (settled_of x); taken = suc v.taken })
      (next_from m v rs)
  next_after m v [] x e = absurd (let z : ◌≡◌ {A = ℕ} 0 1 = cc in omega arith)
  next_after m v (r ∷ rs) x e = next_by_is (settled m v.standing r) v r rs x e
