-- A release and the view after it.
use Rattle.std.proofs.Common.{◌≡◌, ℕ, ◌+◌, ◌<◌, List, [], ◌∷◌, length, set, Some, None, Ok, sum, Option, refl, ap, subst, arith}
use Rattle.std.proofs.lemmas.List.Sums.{sum_by-set}
use Rattle.source.specs.declared.reply.Reply.{Reply}
use Rattle.promise.specs.declared.release.Release.{Release}
use Rattle.promise.specs.declared.release.Settled.{Settled}
use Rattle.promise.specs.Rules.{Rules}
use Rattle.promise.specs.Views.{View, own, all, settled, release_by, release_from, release, next_by, next_from, next}

module _ {B : Type 0} where
  -- the clock moves to the release, and its misses are charged to its class
  pub record Moves (v w : View B) (x : Release B) : Type 0 where
    pub clock : w.standing.clock ≡ x.reply.ready
    pub misses : w.standing.misses ≡ set v.standing.misses x.reply.«class» (own v.standing x.reply.«class» + x.misses)

  moves_by : (o : Option Settled) (v : View B) (r : Reply B) (rs : List (Reply B)) (x : Release B) → Ok x ≡ release_by o r → Moves v (next_by o v r rs) x
  moves_by (Some s) v r rs x e =
      let same : record { reply = record { asked = r.asked; «class» = r.«class»; ready = s.tick; body = r.body }; misses = s.misses } ≡ x = cc in
      subst (Moves v (next_by (Some s) v r rs)) same (record { clock = refl; misses = refl })
  moves_by None v r rs x e = absurd (let z : ◌≡◌ {A = ℕ} 0 1 = cc in omega arith)

  moves_from : (m : Rules) (v : View B) (rs : List (Reply B)) (x : Release B) → Ok x ≡ release_from m v rs → Moves v (next_from m v rs) x
  moves_from m v [] x e = absurd (let z : ◌≡◌ {A = ℕ} 0 1 = cc in omega arith)
  moves_from m v (r ∷ rs) x e = moves_by (settled m v.standing r) v r rs x e

  pub moves : (m : Rules) (v : View B) (x : Release B) → Ok x ≡ release m v → Moves v (next m v) x
  moves m v x e = moves_from m v v.coming x e

  -- all misses grow by those of the release
  pub all_grows : (v w : View B) (x : Release B) → Moves v w x → x.reply.«class» < length v.standing.misses
      → all w.standing ≡ all v.standing + x.misses
  all_grows v w x mv h =
      let s = sum_by-set (λ n. n) v.standing.misses x.reply.«class» (own v.standing x.reply.«class» + x.misses) 0 h in
      let e : all w.standing ≡ sum (set v.standing.misses x.reply.«class» (own v.standing x.reply.«class» + x.misses)) = ap sum mv.misses in
      omega (arith, s, e)
