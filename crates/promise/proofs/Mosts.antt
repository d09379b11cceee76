-- The largest number of misses: the computed one is the largest, and the largest is one.
use Rattle.std.proofs.Common.{◌≡◌, ℕ, zero, suc, ◌+◌, ◌-◌, ◌*◌, ◌^◌, ◌<◌, ◌≤◌, leb, refl, subst, inl, inr, mul-le-mul_left, arith, pow_mono}
use Rattle.std.proofs.lemmas.Bool.{leb-true, leb-false, cases_Bool, cases_lt}
use Rattle.promise.specs.Leaks.{Most, most_from, most_of}

-- the largest is the last that fits
pub most_last : (q span n : ℕ) → q * (2 ^ n - 1) ≤ span → span < q * (2 ^ suc n - 1) → Most q span n
most_last q span n a b =
    record {
      fits = a;
      largest = λ i h. elim (cases_lt n i) [
        | inl lt ↦ (let p : 2 ^ suc n ≤ 2 ^ i = pow_mono lt in
            let r : 2 ^ suc n - 1 ≤ 2 ^ i - 1 = omega arith in
            let g : q * (2 ^ suc n - 1) ≤ q * (2 ^ i - 1) = mul-le-mul_left q r in absurd (omega (arith, g)))
        | inr le ↦ le
      ];
    }

most_up : (f q span n : ℕ) → 1 ≤ q → span ≤ 1000000000 → n + f ≡ 30 → q * (2 ^ n - 1) ≤ span → Most q span (most_from f q span n)
most_up zero q span n hq hd e h =
    let e₃ : n ≡ 30 = omega arith in
    let g : q * (2 ^ 30 - 1) ≤ span = subst (λ i. q * (2 ^ i - 1) ≤ span) e₃ h in
    absurd (omega arith)
most_up (suc f) q span n hq hd e h =
    elim (cases_Bool (leb (q * (2 ^ suc n - 1)) span)) [
      | inl b ↦ rw (b, most_from) (most_up f q span (suc n) hq hd (omega arith) (leb-true (q * (2 ^ suc n - 1)) span b))
      | inr b ↦ rw (b, most_from) (most_last q span n h (leb-false (q * (2 ^ suc n - 1)) span b))
    ]

pub most_of_is : (q span : ℕ) → 1 ≤ q → span ≤ 1000000000 → Most q span (most_of q span)
unfolding most_of
most_of_is q span hq hd = most_up 30 q span 0 hq hd refl (omega arith)

pub most_one : (q span n i : ℕ) → Most q span n → Most q span i → n ≡ i
most_one q span n i a b = omega (arith, b.largest n a.fits, a.largest i b.fits)

-- a number that is the largest is the computed one
pub most_is : (q span n : ℕ) → 1 ≤ q → span ≤ 1000000000 → Most q span n → n ≡ most_of q span
most_is q span n hq hd a = most_one q span n (most_of q span) a (most_of_is q span hq hd)
