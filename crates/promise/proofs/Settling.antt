-- One reply: the rules and what is computed are one, and misses are charged slowly.
use Rattle.std.proofs.Common.{◌≡◌, ℕ, zero, suc, ◌+◌, ◌-◌, ◌*◌, ◌^◌, ◌<◌, ◌≤◌, Bool, true, false, leb, ◌⊎◌, Some, None, Option, sym, refl, ap, ◌∙◌, subst, inl, inr, add-zero, mul-le-mul_right, mul-le-mul_left, pow-suc, mul-add, arith, pow_pos, pow_mono, pow-add}
use Rattle.std.proofs.lemmas.Bool.{le-leb, lt-leb, leb-true, leb-false, cases_lt}
use Rattle.source.specs.Replies.{horizon}
use Rattle.promise.specs.declared.release.Settled.{Settled}
use Rattle.promise.specs.Rules.{Rules, Laws}
use Rattle.promise.specs.Predictions.{predict, Settles, Passes, Comes, missed, judged, settle}

pub wait_some : (m : Rules) → Laws m → (c e : ℕ) → c ≤ 7 → 1 ≤ m.wait c e
wait_some m laws c e hc =
    let g : m.quantum c * 1 ≤ m.quantum c * 2 ^ e = mul-le-mul_left (m.quantum c) (pow_pos e) in
    omega (arith, laws.pace.wait_low c e hc, laws.pace.quantum_low c hc)

pub settles_ready : (m : Rules) (c ready base own all k t : ℕ) → Settles m c ready base own all k t → ready ≤ t
settles_ready m c ready base own all zero t s = s.1
settles_ready m c ready base own all (suc k) t s = settles_ready m c ready (predict m c base own all) (suc own) (suc all) k t s.2

pub settles_within : (m : Rules) (c ready base own all k t : ℕ) → Settles m c ready base own all k t → t ≤ horizon
settles_within m c ready base own all zero t s = s.2
settles_within m c ready base own all (suc k) t s = settles_within m c ready (predict m c base own all) (suc own) (suc all) k t s.2

-- a wait that does not pass the horizon is at least the quantum doubled as often as misses were charged
pub wait_grows : (m : Rules) → Laws m → (c n a base : ℕ) → c ≤ 7 → n ≤ a → predict m c base n a ≤ horizon
    → m.quantum c * 2 ^ n ≤ m.wait c (m.epoch n a)
wait_grows m laws c n a base hc h hp =
    let e : ℕ = m.epoch n a in
    let g : m.quantum c * 2 ^ n ≤ m.quantum c * 2 ^ e = mul-le-mul_left (m.quantum c) (pow_mono (laws.penalty n a h).0) in
    omega (arith, laws.pace.wait_low c e hc)

doubles : (q n : ℕ) → q * 2 ^ suc n ≡ q * 2 ^ n + q * 2 ^ n
doubles q n = rw (pow-suc 2 n) (omega arith)

-- from any start: q × 2^n + o ≤ base + z, for the misses n charged so far, holds on with every miss
pub slow : (m : Rules) → Laws m → (c : ℕ) → c ≤ 7 → (ready o z base n a k t : ℕ) → n ≤ a
    → m.quantum c * 2 ^ n + o ≤ base + z
    → Settles m c ready base n a k t
    → (m.quantum c * 2 ^ (n + k) + o ≤ t + z) × (base < t)
slow m laws c hc ready o z base n a zero t h b s =
    let w : 1 ≤ m.wait c (m.epoch n a) = wait_some m laws c (m.epoch n a) hc in
    let lt : base < t = omega (arith, s.0) in
    (rw add-zero (omega (arith, lt, b)), lt)
slow m laws c hc ready o z base n a (suc k) t h b s =
    let p : ℕ = predict m c base n a in
    let w : 1 ≤ m.wait c (m.epoch n a) = wait_some m laws c (m.epoch n a) hc in
    let g : m.quantum c * 2 ^ n ≤ m.wait c (m.epoch n a) = wait_grows m laws c n a base hc h s.1 in
    let b' : m.quantum c * 2 ^ suc n + o ≤ p + z = omega (arith, g, b, doubles (m.quantum c) n) in
    let r = slow m laws c hc ready o z p (suc n) (suc a) k t (omega arith) b' s.2 in
    let e : suc n + k ≡ n + suc k = omega arith in
    (subst (λ x. m.quantum c * 2 ^ x + o ≤ t + z) e r.0, omega (arith, r.1, w))

-- a quantum is at least 1, so that what holds of it holds of 1
at_least_one : (q x y b t : ℕ) → 1 ≤ q → x ≤ y → q * y + b ≤ t + q * x → y + b ≤ t + x
at_least_one q x y b t hq hxy h =
    let d : ℕ = y - x in
    let e : y ≡ x + d = omega arith in
    let m : q * y ≡ q * x + q * d = ap (λ n. q * n) e ∙ mul-add q x d in
    let l : 1 * d ≤ q * d = mul-le-mul_right d hq in
    omega (arith, m, l)

-- what a release has: it is after the base, and as far after it as the class's misses doubled
pub record Risen (base own : ℕ) (s : Settled) : Type 0 where
  pub rises : base < s.tick
  pub within : s.tick ≤ horizon
  pub doubled : 2 ^ (own + s.misses) + base ≤ s.tick + 2 ^ own

pub risen : (m : Rules) → Laws m → (c : ℕ) → c ≤ 7 → (ready base own all : ℕ) (s : Settled) → own ≤ all
    → Settles m c ready base own all s.misses s.tick → Risen base own s
risen m laws c hc ready base own all s h st =
    let r = slow m laws c hc ready base (m.quantum c * 2 ^ own) base own all s.misses s.tick h (omega arith) st in
    let up : own ≤ own + s.misses = omega arith in
    record {
      rises = r.1;
      within = settles_within m c ready base own all s.misses s.tick st;
      doubled = at_least_one (m.quantum c) (2 ^ own) (2 ^ (own + s.misses)) base s.tick (laws.pace.quantum_low c hc) (pow_mono up) r.0;
    }

-- a power of two of at most H + 1 has an exponent of at most 29
pub few : (n t : ℕ) → 2 ^ n ≤ t + 1 → t ≤ horizon → n ≤ 29
few n t low high =
    elim (cases_lt n 30) [
      | inl lt ↦ omega arith
      | inr ge ↦ (let w : 2 ^ 30 ≤ 2 ^ n = pow_mono ge in absurd (omega (arith, w)))
    ]

pub misses_few : (m : Rules) → Laws m → (c : ℕ) → c ≤ 7 → (ready base own all k t : ℕ) → own ≤ all → Settles m c ready base own all k t → k ≤ 29
misses_few m laws c hc ready base own all k t h st =
    let s : Settled = record { tick = t; misses = k } in
    let r = risen m laws c hc ready base own all s h st in
    let p : 2 ^ own * 2 ^ k ≡ 2 ^ (own + k) = sym (pow-add 2 own k) in
    let one : 0 < 2 ^ own = pow_pos own in
    let g : 2 ^ k + base ≤ t + 1 = at_least_one (2 ^ own) 1 (2 ^ k) base t (omega arith) (pow_pos k) (omega (arith, r.doubled, p)) in
    few k t (omega arith) r.within

-- the rules leave one outcome, and it is the computed one
pub settles_settle : (f : ℕ) (m : Rules) (c ready base own all : ℕ) (s : Settled) → Settles m c ready base own all s.misses s.tick
    → s.misses < f → Some s ≡ settle f m c ready base own all
settles_settle f m c ready base own all s st h = go f base own all s.misses st h
  where
    go : (f base own all k : ℕ) → Settles m c ready base own all k s.tick → k < f
        → Some (record { tick = s.tick; misses = k }) ≡ settle f m c ready base own all
    go zero base own all k st h = absurd (omega arith)
    go (suc f) base own all zero st h =
        let p : ℕ = predict m c base own all in
        let x : Option Settled = settle f m c ready p (suc own) (suc all) in
        ap (λ t. Some (record { tick = t; misses = 0 })) st.0
        ∙ sym (ap (λ b. judged b (leb ready p) p x) (le-leb p horizon (omega (arith, st.0, st.2)))
        ∙ ap (λ b. judged true b p x) (le-leb ready p (omega (arith, st.0, st.1))))
    go (suc f) base own all (suc k) st h =
        let p : ℕ = predict m c base own all in
        let x : Option Settled = settle f m c ready p (suc own) (suc all) in
        ap missed (go f p (suc own) (suc all) k st.2 (omega arith))
        ∙ sym (ap (λ b. judged b (leb ready p) p x) (le-leb p horizon st.1) ∙ ap (λ b. judged true b p x) (lt-leb ready p st.0))

pub passes_settle : (f : ℕ) (m : Rules) (c ready base own all k : ℕ) → Passes m c ready base own all k → None ≡ settle f m c ready base own all
passes_settle zero m c ready base own all k s = refl
passes_settle (suc f) m c ready base own all zero s =
    let p : ℕ = predict m c base own all in
    sym (ap (λ b. judged b (leb ready p) p (settle f m c ready p (suc own) (suc all))) (lt-leb p horizon s))
passes_settle (suc f) m c ready base own all (suc k) s =
    let p : ℕ = predict m c base own all in
    let x : Option Settled = settle f m c ready p (suc own) (suc all) in
    ap missed (passes_settle f m c ready p (suc own) (suc all) k s.2)
    ∙ sym (ap (λ b. judged b (leb ready p) p x) (le-leb p horizon s.1) ∙ ap (λ b. judged true b p x) (lt-leb ready p s.0))

pub comes_settle : (m : Rules) → Laws m → (c : ℕ) → c ≤ 7 → (ready base own all : ℕ) (r : Option Settled) → own ≤ all
    → Comes m c ready base own all r → r ≡ settle 30 m c ready base own all
comes_settle m laws c hc ready base own all (Some s) h st =
    settles_settle 30 m c ready base own all s st (let k : s.misses ≤ 29 = misses_few m laws c hc ready base own all s.misses s.tick h st in omega arith)
comes_settle m laws c hc ready base own all None h st = passes_settle 30 m c ready base own all st.0 st.1

-- what is computed obeys the rules
from_judged : (inside timely : Bool) (p : ℕ) (later : Option Settled) (s : Settled) → Some s ≡ judged inside timely p later
    → (inside ≡ true) × (((timely ≡ true) × (s ≡ record { tick = p; misses = 0 }))
    ⊎ ((timely ≡ false) × ((j : ℕ) × (s.misses ≡ suc j) × (Some (record { tick = s.tick; misses = j }) ≡ later))))
from_judged false timely p later s e = absurd (let z : ◌≡◌ {A = ℕ} 0 1 = cc in omega arith)
from_judged true true p later s e = (refl, inl (refl, cc))
from_judged true false p (Some x) s e =
    let same : s ≡ record { tick = x.tick; misses = suc x.misses } = cc in
    (refl, inr (refl, (x.misses, ap (λ (y : Settled). y.misses) same, ap (λ (y : Settled). Some (record { tick = y.tick; misses = x.misses })) same)))
from_judged true false p None s e = absurd (let z : ◌≡◌ {A = ℕ} 0 1 = cc in omega arith)

pub settle_settles : (f : ℕ) (m : Rules) (c ready base own all : ℕ) (s : Settled) → Some s ≡ settle f m c ready base own all
    → Settles m c ready base own all s.misses s.tick
settle_settles zero m c ready base own all s e = absurd (let z : ◌≡◌ {A = ℕ} 0 1 = cc in omega arith)
settle_settles (suc f) m c ready base own all s e =
    let p : ℕ = predict m c base own all in
    let g = from_judged (leb p horizon) (leb ready p) p (settle f m c ready p (suc own) (suc all)) s e in
    let le : p ≤ horizon = leb-true p horizon g.0 in
    elim g.1 [
      | inl z ↦ subst (λ (y : Settled). Settles m c ready base own all y.misses y.tick) (sym z.1) (refl, leb-true ready p z.0, le)
      | inr z ↦ subst (λ k. Settles m c ready base own all k s.tick) (sym z.1.1)
          (leb-false ready p z.0, le, settle_settles f m c ready p (suc own) (suc all) (record { tick = s.tick; misses = z.1.0 }) z.1.2)
    ]

-- one miss within the horizon takes the base past the next power of two
power_more : (m : Rules) → Laws m → (c j base own all : ℕ) → c ≤ 7 → own ≤ all → j ≤ own → 2 ^ j ≤ base + 1
    → predict m c base own all ≤ horizon → 2 ^ suc j ≤ predict m c base own all + 1
power_more m laws c j base own all hc h hj b hp =
    let g : m.quantum c * 2 ^ own ≤ m.wait c (m.epoch own all) = wait_grows m laws c own all base hc h hp in
    let q : 1 * 2 ^ own ≤ m.quantum c * 2 ^ own = mul-le-mul_right (2 ^ own) (laws.pace.quantum_low c hc) in
    let w : 2 ^ j ≤ 2 ^ own = pow_mono hj in
    rw (pow-suc 2 j) (omega (arith, g, q, w, b))

from_none : (inside timely : Bool) (p : ℕ) (later : Option Settled) → None ≡ judged inside timely p later
    → (inside ≡ false) ⊎ ((inside ≡ true) × (timely ≡ false) × (None ≡ later))
from_none false timely p later e = inl refl
from_none true true p later e = absurd (let z : ◌≡◌ {A = ℕ} 0 1 = cc in omega arith)
from_none true false p (Some x) e = absurd (let z : ◌≡◌ {A = ℕ} 0 1 = cc in omega arith)
from_none true false p None e = inr (refl, refl, refl)

-- the computation ends only where the rules do: j misses were charged, and so many rounds are left of 30
pub settle_passes : (f j : ℕ) → j + f ≡ 30 → (m : Rules) → Laws m → (c : ℕ) → c ≤ 7 → (ready base own all : ℕ)
    → own ≤ all → j ≤ own → 2 ^ j ≤ base + 1 → base ≤ horizon
    → None ≡ settle f m c ready base own all → (k : ℕ) × Passes m c ready base own all k
settle_passes zero j ef m laws c hc ready base own all h hj b hb e =
    let j₃ : j ≡ 30 = omega arith in
    let g : 2 ^ 30 ≤ base + 1 = subst (λ x. 2 ^ x ≤ base + 1) j₃ b in
    absurd (omega arith)
settle_passes (suc f) j ef m laws c hc ready base own all h hj b hb e =
    let p : ℕ = predict m c base own all in
    elim (from_none (leb p horizon) (leb ready p) p (settle f m c ready p (suc own) (suc all)) e) [
      | inl z ↦ (0, leb-false p horizon z)
      | inr z ↦
          (let le : p ≤ horizon = leb-true p horizon z.0 in
          let r = settle_passes f (suc j) (omega arith) m laws c hc ready p (suc own) (suc all) (omega arith) (omega arith)
          (power_more m laws c j base own all hc h hj b le) le z.2 in
          (suc r.0, (leb-false ready p z.1, le, r.1)))
    ]
