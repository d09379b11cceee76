-- The most misses, and the least number of bits, by the power of two that they stand for.
use Rattle.std.proofs.Common.{◌≡◌, ℕ, zero, suc, ◌+◌, ◌-◌, ◌*◌, ◌^◌, ◌/◌, ◌<◌, ◌≤◌, leb, subst, inl, inr, add-zero, mul-le-mul_left, arith, pow_mono}
use Rattle.std.proofs.Math.Nat.{mul-div-le, lt-mul-div-succ}
use native.Mathlib.Nat.{two-pow-succ}
use Rattle.std.proofs.lemmas.Bool.{cases_lt, cases_Bool, leb-true, leb-false}
use Rattle.promise.specs.Leaks.{Most}
use Rattle.promise.proofs.Mosts.{most_last}
use Rattle.tally.specs.Bits.{Enough, bits_from, row_bits}

-- one more than the quanta that the span holds, between two powers of two, gives the most misses
pub most_by_power : (q span n : ℕ) → 1 ≤ q → 2 ^ n ≤ span / q + 1 → span / q + 1 < 2 * 2 ^ n → Most q span n
most_by_power q span n hq low high =
    let fits : q * (2 ^ n - 1) ≤ q * (span / q) = mul-le-mul_left q (let le : 2 ^ n - 1 ≤ span / q = omega arith in le) in
    let past : q * (span / q + 1) ≤ q * (2 ^ suc n - 1) = mul-le-mul_left q (let le : span / q + 1 ≤ 2 ^ suc n - 1 = omega (arith, two-pow-succ n) in le) in
    most_last q span n (omega (arith, fits, mul-div-le span q)) (omega (arith, past, lt-mul-div-succ span hq))

-- the length of a number in binary is enough bits for one thing more, and the least
pub enough_length : (rows b : ℕ) → rows < 2 ^ b → 2 ^ b ≤ 2 * rows + 1 → Enough rows b
enough_length rows b above short =
    record {
      enough = omega arith;
      least = λ i e. elim (cases_lt i b) [
        | inl lt ↦ (let w : 2 ^ suc i ≤ 2 ^ b = pow_mono lt in absurd (omega (arith, w, two-pow-succ i)))
        | inr le ↦ le
      ];
    }

-- the computed number of bits is the least
bits_up : (f rows b : ℕ) → rows + 1 ≤ 2 ^ (b + f) → ((i : ℕ) → rows + 1 ≤ 2 ^ i → b ≤ i) → Enough rows (bits_from f rows b)
bits_up zero rows b h l = record { enough = subst (λ n. rows + 1 ≤ 2 ^ n) (add-zero b) h; least = l }
bits_up (suc f) rows b h l =
    elim (cases_Bool (leb (rows + 1) (2 ^ b))) [
      | inl e ↦ rw (e, bits_from) (record { enough = leb-true (rows + 1) (2 ^ b) e; least = l })
      | inr e ↦ rw (e, bits_from)
          (bits_up f rows (suc b) (subst (λ n. rows + 1 ≤ 2 ^ n) (let k : b + suc f ≡ suc b + f = omega arith in k) h)
          (λ i g. elim (cases_lt b i) [ inl lt ↦ lt | inr le ↦ (let w : 2 ^ i ≤ 2 ^ b = pow_mono le in absurd (omega (arith, w, leb-false (rows + 1) (2 ^ b) e))) ]))
    ]

pub row_bits_is : (rows : ℕ) → rows ≤ 50000 → Enough rows (row_bits rows)
unfolding row_bits
row_bits_is rows h = bits_up 16 rows 0 (omega arith) (λ i g. omega arith)

pub enough_is : (rows b : ℕ) → rows ≤ 50000 → Enough rows b → b ≡ row_bits rows
enough_is rows b h e = let r = row_bits_is rows h in omega (arith, e.least (row_bits rows) r.enough, r.least b e.enough)
