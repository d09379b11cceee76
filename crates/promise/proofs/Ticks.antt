-- Release ticks as a function of what is public and of the misses alone.
use Rattle.std.proofs.Common.{◌≡◌, ℕ, zero, suc, ◌+◌, ◌<◌, ◌≤◌, List, [], ◌∷◌, length, sym, refl, ap, ◌∙◌, subst, arith}
use Rattle.source.specs.declared.reply.Reply.{Reply}
use Rattle.source.specs.Replies.{horizon}
use Rattle.promise.specs.Rules.{Rules, Laws, Alike}
use Rattle.promise.specs.Predictions.{predict, Settles}
use Rattle.promise.specs.Views.{Standing, own, all, base, charged}
use Rattle.promise.specs.Runs.{ticks_of}
use Rattle.promise.specs.Promise.{Key, key_of, keys_of, Freed, All, stands}
use Rattle.promise.proofs.Settling.{wait_some}
use Rattle.promise.proofs.Running.{Known}

-- the prediction that follows k misses
abbrev pub reach : Rules → ℕ → ℕ → ℕ → ℕ → ℕ → ℕ
reach m c from n a zero = predict m c from n a
reach m c from n a (suc k) = reach m c (predict m c from n a) (suc n) (suc a) k

abbrev pub reach_at : Rules → Standing → Key → ℕ → ℕ
reach_at m st d k = reach m d.«class» (base st d.asked) (own st d.«class») (all st) k

-- where the gate stands after that
abbrev pub reached : Rules → Standing → Key → ℕ → Standing
reached m st d k = charged st d.«class» (record { tick = reach_at m st d k; misses = k })

-- the release ticks of replies with some keys and some misses
abbrev pub ticks : Rules → Standing → List Key → List ℕ → List ℕ
ticks m st [] ks = []
ticks m st (d ∷ ds) [] = []
ticks m st (d ∷ ds) (k ∷ ks) = reach_at m st d k ∷ ticks m (reached m st d k) ds ks

pub ticks_none : (m : Rules) (st : Standing) (ds : List Key) → ticks m st ds [] ≡ []
ticks_none m st [] = refl
ticks_none m st (d ∷ ds) = refl

pub settles_reach : (m : Rules) (c ready from n a k t : ℕ) → Settles m c ready from n a k t → t ≡ reach m c from n a k
settles_reach m c ready from n a zero t s = s.0
settles_reach m c ready from n a (suc k) t s = settles_reach m c ready (predict m c from n a) (suc n) (suc a) k t s.2

module _ (m : Rules) (laws : Laws m) (c : ℕ) (hc : c ≤ 7) where
  reach_past : (from n a k : ℕ) → from < reach m c from n a k
  reach_past from n a zero = omega (arith, wait_some m laws c (m.epoch n a) hc)
  reach_past from n a (suc k) =
      omega (arith, wait_some m laws c (m.epoch n a) hc, reach_past (predict m c from n a) (suc n) (suc a) k)

  -- the tick tells the misses
  pub reach_tells : (from n a k j : ℕ) → reach m c from n a k ≡ reach m c from n a j → k ≡ j
  reach_tells from n a zero zero e = refl
  reach_tells from n a zero (suc j) e = omega (arith, e, reach_past (predict m c from n a) (suc n) (suc a) j)
  reach_tells from n a (suc k) zero e = omega (arith, e, reach_past (predict m c from n a) (suc n) (suc a) k)
  reach_tells from n a (suc k) (suc j) e = ap suc (reach_tells (predict m c from n a) (suc n) (suc a) k j e)

module _ {B : Type 0} where
  pub freed_ticks : (m : Rules) (st : Standing) (rs xs : List (Reply B)) (ks : List ℕ) → Freed m st rs xs ks → ticks_of xs ≡ ticks m st (keys_of rs) ks
  freed_ticks m st rs [] [] f = sym (ticks_none m st (keys_of rs))
  freed_ticks m st rs [] (k ∷ ks) f = elim f [ ]
  freed_ticks m st rs (x ∷ xs) [] f = elim f [ ]
  freed_ticks m st [] (x ∷ xs) (k ∷ ks) f = elim f [ ]
  freed_ticks m st (r ∷ rs) (x ∷ xs) (k ∷ ks) f =
      let e : x.ready ≡ reach_at m st (key_of r) k = settles_reach m r.«class» r.ready _ _ _ k x.ready f.2 in
      ap (λ ts. x.ready ∷ ts) (freed_ticks m (stands st r k x.ready) rs xs ks f.3)
      ∙ ap (λ t. t ∷ ticks m (stands st r k t) (keys_of rs) ks) e

  pub freed_length : (m : Rules) (st : Standing) (rs xs : List (Reply B)) (ks : List ℕ) → Freed m st rs xs ks → length ks ≤ length rs
  freed_length m st rs [] [] f = omega arith
  freed_length m st rs [] (k ∷ ks) f = elim f [ ]
  freed_length m st rs (x ∷ xs) [] f = elim f [ ]
  freed_length m st [] (x ∷ xs) (k ∷ ks) f = elim f [ ]
  freed_length m st (r ∷ rs) (x ∷ xs) (k ∷ ks) f = omega (arith, freed_length m (stands st r k x.ready) rs xs ks f.3)

  pub known_keys : (rs : List (Reply B)) → Known rs → All (λ (d : Key). d.«class» ≤ 7) (keys_of rs)
  known_keys [] u = tt
  known_keys (r ∷ rs) u = (u.0, known_keys rs u.1)

  pub length_keys : (rs : List (Reply B)) → length (keys_of rs) ≡ length rs
  length_keys [] = refl
  length_keys (r ∷ rs) = ap suc (length_keys rs)

abbrev first_of : List ℕ → ℕ
first_of [] = 0
first_of (x ∷ xs) = x

abbrev rest_of : List ℕ → List ℕ
rest_of [] = []
rest_of (x ∷ xs) = xs

-- the release ticks tell the miss record
pub ticks_tell : (m : Rules) → Laws m → (st : Standing) (ds : List Key) (ks js : List ℕ) → All (λ (d : Key). d.«class» ≤ 7) ds
    → length ks ≤ length ds → length js ≤ length ds → ticks m st ds ks ≡ ticks m st ds js → ks ≡ js
ticks_tell m laws st [] [] [] u hk hj e = refl
ticks_tell m laws st [] [] (j ∷ js) u hk hj e = absurd (omega arith)
ticks_tell m laws st [] (k ∷ ks) js u hk hj e = absurd (omega arith)
ticks_tell m laws st (d ∷ ds) [] [] u hk hj e = refl
ticks_tell m laws st (d ∷ ds) [] (j ∷ js) u hk hj e = absurd (let z : ◌≡◌ {A = ℕ} 0 1 = cc in omega arith)
ticks_tell m laws st (d ∷ ds) (k ∷ ks) [] u hk hj e = absurd (let z : ◌≡◌ {A = ℕ} 0 1 = cc in omega arith)
ticks_tell m laws st (d ∷ ds) (k ∷ ks) (j ∷ js) u hk hj e =
    let ek : k ≡ j = reach_tells m laws d.«class» u.0 (base st d.asked) (own st d.«class») (all st) k j (ap first_of e) in
    let e' : ticks m st (d ∷ ds) (k ∷ ks) ≡ ticks m st (d ∷ ds) (k ∷ js)
    = subst (λ i. ticks m st (d ∷ ds) (k ∷ ks) ≡ ticks m st (d ∷ ds) (i ∷ js)) (sym ek) e in
    let es : ks ≡ js = ticks_tell m laws (reached m st d k) ds ks js u.1 (omega arith) (omega arith) (ap rest_of e') in
    ap (λ i. i ∷ ks) ek ∙ ap (λ is. j ∷ is) es

-- paces and rules that answer alike release alike
module _ (m n : Rules) (alike : Alike m n) where
  predict_alike : (c : ℕ) → c ≤ 7 → (from i a : ℕ) → predict n c from i a ≡ predict m c from i a
  predict_alike c hc from i a = ap (λ w. from + w) (sym (ap (m.wait c) (alike.epoch i a) ∙ alike.wait c (n.epoch i a) hc))

  settles_alike : (c : ℕ) → c ≤ 7 → (ready from i a k t : ℕ) → Settles n c ready from i a k t → Settles m c ready from i a k t
  settles_alike c hc ready from i a zero t s = (s.0 ∙ predict_alike c hc from i a, s.1, s.2)
  settles_alike c hc ready from i a (suc k) t s =
      let e : predict n c from i a ≡ predict m c from i a = predict_alike c hc from i a in (
        subst (λ p. p < ready) e s.0,
        subst (λ p. p ≤ horizon) e s.1,
        settles_alike c hc ready (predict m c from i a) (suc i) (suc a) k t (subst (λ p. Settles n c ready p (suc i) (suc a) k t) e s.2),
      )

  pub freed_alike : {B : Type 0} (st : Standing) (rs xs : List (Reply B)) (ks : List ℕ) → Known rs → Freed n st rs xs ks → Freed m st rs xs ks
  freed_alike st rs [] [] u f = tt
  freed_alike st rs [] (k ∷ ks) u f = elim f [ ]
  freed_alike st rs (x ∷ xs) [] u f = elim f [ ]
  freed_alike st [] (x ∷ xs) (k ∷ ks) u f = elim f [ ]
  freed_alike st (r ∷ rs) (x ∷ xs) (k ∷ ks) u f = (
    f.0,
    f.1,
    settles_alike r.«class» u.0 r.ready _ _ _ k x.ready f.2,
    freed_alike (stands st r k x.ready) rs xs ks u.1 f.3,
  )
