-- The prediction loop, turn by turn: what settles from where it stands settles from where it began.
use Rattle.std.proofs.Common.{◌≡◌, ℕ, suc, ◌+◌, ◌<◌, ◌≤◌, subst, add-zero, arith}
use Rattle.source.specs.Replies.{horizon}
use Rattle.promise.specs.Rules.{Rules, Laws}
use Rattle.promise.specs.Predictions.{predict, Settles, Passes}
use Rattle.promise.proofs.Settling.{wait_some}
use Rattle.gate.specs.declared.predict.Pending.{Pending}

module _ (m : Rules) where
  -- the prediction that is made next
  abbrev pub next : Pending → ℕ
  next p = predict m p.«class» p.base p.own p.all

  abbrev SettlesFrom : Pending → ℕ → ℕ → Type 0
  SettlesFrom p k t = Settles m p.«class» p.ready p.base p.own p.all k t

  abbrev PassesFrom : Pending → ℕ → Type 0
  PassesFrom p k = Passes m p.«class» p.ready p.base p.own p.all k

  -- after `misses` misses the predictions for p go on from n
  pub record Onward (p : Pending) (misses : ℕ) (n : Pending) : Type 0 where
    pub all_is : n.all ≡ p.all + misses
    pub risen : p.base + misses ≤ n.base
    pub settles : (k t : ℕ) → SettlesFrom n k t → SettlesFrom p (misses + k) t
    pub passes : (k : ℕ) → PassesFrom n k → PassesFrom p (misses + k)

  module _ (p : Pending) (misses : ℕ) (n : Pending) (on : Onward p misses n) where
    pub onward_past : horizon < next n → (k : ℕ) × PassesFrom p k
    onward_past past = (misses + 0, on.passes 0 past)

    pub onward_met : (tick : ℕ) → tick ≡ next n → n.ready ≤ tick → tick ≤ horizon → SettlesFrom p misses tick
    onward_met tick is met h = subst (λ k. SettlesFrom p k tick) (add-zero misses) (on.settles 0 tick (is, met, h))

    pub onward_missed : Laws m → next n < n.ready → next n ≤ horizon → (q : Pending) → (q.«class» ≡ n.«class») × (q.ready ≡ n.ready)
        → (q.own ≡ n.own + 1) × (q.all ≡ n.all + 1) × (q.base ≡ next n) → Onward p (misses + 1) q
    onward_missed laws late inside q same after =
        let some : 1 ≤ m.wait n.«class» (m.epoch n.own n.all) = wait_some m laws n.«class» (m.epoch n.own n.all) n.known in
        let own : q.own ≡ suc n.own = omega arith in
        let all : q.all ≡ suc n.all = omega arith in
        record {
          all_is = omega (arith, on.all_is);
          risen = omega (arith, on.risen);
          settles = λ k t s.
              let s' : Settles m n.«class» n.ready (next n) (suc n.own) (suc n.all) k t
              = subst (λ (X : Type 0). X) (λ i. Settles m (same.0 i) (same.1 i) (after.2 i) (own i) (all i) k t) s in
              subst (λ i. SettlesFrom p i t) (let e : misses + suc k ≡ misses + 1 + k = omega arith in e) (on.settles (suc k) t (late, inside, s'));
          passes = λ k s.
              let s' : Passes m n.«class» n.ready (next n) (suc n.own) (suc n.all) k
              = subst (λ (X : Type 0). X) (λ i. Passes m (same.0 i) (same.1 i) (after.2 i) (own i) (all i) k) s in
              subst (PassesFrom p) (let e : misses + suc k ≡ misses + 1 + k = omega arith in e) (on.passes (suc k) (late, inside, s'));
        }
