-- What stands at a place of a list, and what is left from there on.
use Rattle.std.specs.Prelude.{◌≡◌, ℕ, zero, suc, ◌+◌, ◌<◌, ◌≤◌, List, [], ◌∷◌, length, take, drop, Some, None, refl}
use Rattle.std.proofs.Common.{ap, arith, length-drop}
use Rattle.std.specs.List.{slice_get}

module _ {A : Type 0} where
  pub drop_some : (xs : List A) (k : ℕ) (x : A) → slice_get xs k ≡ Some x → drop k xs ≡ x ∷ drop (k + 1) xs
  drop_some [] k x e = let z : ◌≡◌ {A = ℕ} 0 1 = cc in absurd (omega arith)
  drop_some (y ∷ ys) zero x e = let s : y ≡ x = cc in ap (λ a. a ∷ ys) s
  drop_some (y ∷ ys) (suc k) x e = let n : suc k + 1 ≡ suc (k + 1) = omega arith in rw n (drop_some ys k x e)

  pub drop_none : (xs : List A) (k : ℕ) → slice_get xs k ≡ None → drop k xs ≡ []
  drop_none [] zero e = refl
  drop_none [] (suc k) e = refl
  drop_none (y ∷ ys) zero e = let z : ◌≡◌ {A = ℕ} 0 1 = cc in absurd (omega arith)
  drop_none (y ∷ ys) (suc k) e = drop_none ys k e

  -- a place in the first n items
  pub nth_take : (xs : List A) (n k : ℕ) → k < n → slice_get xs k ≡ slice_get (take n xs) k
  nth_take [] zero k h = absurd (omega arith)
  nth_take [] (suc n) k h = refl
  nth_take (x ∷ xs) zero k h = absurd (omega arith)
  nth_take (x ∷ xs) (suc n) zero h = refl
  nth_take (x ∷ xs) (suc n) (suc k) h = nth_take xs n k (omega arith)

  -- a place past them
  pub nth_past_take : (xs : List A) (n k : ℕ) → n ≤ k → None ≡ slice_get (take n xs) k
  nth_past_take [] zero k h = refl
  nth_past_take [] (suc n) k h = refl
  nth_past_take (x ∷ xs) zero k h = refl
  nth_past_take (x ∷ xs) (suc n) zero h = absurd (omega arith)
  nth_past_take (x ∷ xs) (suc n) (suc k) h = nth_past_take xs n k (omega arith)

  -- a place that holds something is inside the list
  pub place_inside : (xs : List A) (k : ℕ) (x : A) → slice_get xs k ≡ Some x → k < length xs
  place_inside xs k x at = let n : length (drop k xs) ≡ length (x ∷ drop (k + 1) xs) = ap length (drop_some xs k x at) in omega (arith, simp length-drop at n)
