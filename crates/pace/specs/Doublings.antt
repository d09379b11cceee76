-- Waits that double until they pass the horizon.
use Rattle.std.specs.Prelude.{◌≡◌, ℕ, ◌+◌, ◌-◌, ◌*◌, ◌^◌, ◌<◌, ◌≤◌, min}
use Rattle.std.proofs.Common.{sym, ◌∙◌, ap, mul_assoc, pow-suc, mul-le-mul_left, mul-le-mul_right, add-one, arith, pow-add}
use Rattle.std.proofs.Math.Nat.{pow-le-pow_right}
use Rattle.pace.specs.Laws.{forever}
use Rattle.pace.specs.Steps.{doubled}

product_more : (w n : ℕ) → w * 2 ^ n * 2 ≡ w * 2 ^ (n + 1)
product_more w n = rw (add-one, pow-suc 2 n) (mul_assoc w (2 ^ n) 2)

pub doubled_none : (w : ℕ) → min w forever ≡ doubled w 0
doubled_none w = omega arith

-- one more doubling within the horizon
pub doubled_more : (w n long : ℕ) → long ≡ doubled w n → long ≤ 500000000 → long * 2 ≡ doubled w (n + 1)
doubled_more w n long e low = omega (arith, product_more w n)

-- one that passes it, and those after it
pub doubled_past : (w i n long : ℕ) → long ≡ doubled w i → i < n → 500000000 < long → forever ≡ doubled w n
doubled_past w i n long e less high =
    let more : w * 2 ^ (i + 1) ≤ w * 2 ^ n = mul-le-mul_left w (pow-le-pow_right (omega arith) (omega arith)) in
    omega (arith, product_more w i)

-- a later wait that keeps up with the first one goes on keeping up
pub doubled_keeps : (w v m e : ℕ) → w * 2 ^ m ≤ v → m ≤ e → doubled w e ≤ doubled v (e - m)
doubled_keeps w v m e h le =
    let split : w * 2 ^ e ≡ w * 2 ^ m * 2 ^ (e - m) = ap (λ k. w * 2 ^ k) there ∙ (ap (λ k. w * k) (pow-add 2 m (e - m)) ∙ sym (mul_assoc w (2 ^ m) (2 ^ (e - m)))) in
    let up : w * 2 ^ m * 2 ^ (e - m) ≤ v * 2 ^ (e - m) = mul-le-mul_right (2 ^ (e - m)) h in
    omega arith
  where
    there : e ≡ m + (e - m)
    there = omega arith
