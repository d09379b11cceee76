-- Sums of numbers in a list, such as the misses of the classes.
use Rattle.std.proofs.Common.{◌≡◌, ℕ, zero, suc, ◌+◌, ◌*◌, ◌<◌, ◌≤◌, List, [], ◌∷◌, length, get_or, set, sum, refl, ap, subst, inl, inr, add-zero, mul-suc, arith}
use lib.ListN.{get_or-eq_default}
use Rattle.std.proofs.lemmas.List.Sums.{get_or-le-sum_by, sum_by-cons, sum_by-set}
use Rattle.std.proofs.lemmas.Bool.{cases_lt}

-- one number is part of the sum
pub part_of_sum : (xs : List ℕ) (i : ℕ) → get_or xs i 0 ≤ sum xs
part_of_sum xs i =
    elim (cases_lt i (length xs)) [
      | inl h ↦ get_or-le-sum_by (λ x. x) xs i 0 h
      | inr h ↦ (let e : get_or xs i 0 ≡ 0 = get_or-eq_default xs 0 h in omega (arith, e))
    ]

-- numbers of at most b have a sum of at most b for each
pub sum_few : (xs : List ℕ) (b : ℕ) → ((i : ℕ) → i < length xs → get_or xs i 0 ≤ b) → sum xs ≤ b * length xs
sum_few [] b h = omega arith
sum_few (x ∷ xs) b h =
    let one : x ≤ b = h 0 (omega arith) in
    let more : sum xs ≤ b * length xs = sum_few xs b (λ i l. h (suc i) (omega arith)) in
    let m : b * suc (length xs) ≡ b * length xs + b = mul-suc b (length xs) in
    omega (arith, m, sum_by-cons (λ y. y) x xs)

-- what is added to one number is added to the sum
pub sum_set : (xs : List ℕ) (i k : ℕ) → i < length xs → sum (set xs i (get_or xs i 0 + k)) ≡ sum xs + k
sum_set xs i k h = omega (arith, sum_by-set (λ n. n) xs i (get_or xs i 0 + k) 0 h)

-- the sum of f over n places from i on
abbrev pub sum_from : (ℕ → ℕ) → ℕ → ℕ → ℕ
sum_from f i zero = 0
sum_from f i (suc n) = f i + sum_from f (suc i) n

-- numbers that are capped place by place have a capped sum
pub sum_capped : (cap : ℕ → ℕ) (i : ℕ) (xs : List ℕ) → ((j : ℕ) → j < length xs → get_or xs j 0 ≤ cap (i + j))
    → sum xs ≤ sum_from cap i (length xs)
sum_capped cap i [] h = omega arith
sum_capped cap i (x ∷ xs) h =
    let a : x ≤ cap i = subst (λ n. x ≤ cap n) (add-zero i) (h 0 (omega arith)) in
    let ih : sum xs ≤ sum_from cap (suc i) (length xs)
    = sum_capped cap (suc i) xs (λ j hj. let e : i + suc j ≡ suc i + j = omega arith in subst (λ n. get_or xs j 0 ≤ cap n) e (h (suc j) (omega arith))) in
    omega (arith, a, ih, sum_by-cons (λ y. y) x xs)

sum_from_more : (i n x : ℕ) (xs : List ℕ) → sum_from (λ j. get_or (x ∷ xs) j 0) (suc i) n ≡ sum_from (λ j. get_or xs j 0) i n
sum_from_more i zero x xs = refl
sum_from_more i (suc n) x xs = ap (λ z. get_or xs i 0 + z) (sum_from_more (suc i) n x xs)

-- a sum, place by place
pub sum_from_is : (xs : List ℕ) (n : ℕ) → length xs ≡ n → sum xs ≡ sum_from (λ j. get_or xs j 0) 0 n
sum_from_is [] zero e = refl
sum_from_is [] (suc n) e = absurd (omega arith)
sum_from_is (x ∷ xs) zero e = absurd (omega arith)
sum_from_is (x ∷ xs) (suc n) e =
    omega (arith, sum_by-cons (λ y. y) x xs, sum_from_is xs n (omega arith), sum_from_more 0 n x xs)
