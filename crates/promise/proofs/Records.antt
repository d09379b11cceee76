-- Every list of at most m numbers with a sum of at most s: they number at most (m + 1)^(s + 1).
use Rattle.std.proofs.Common.{◌≡◌, ℕ, zero, suc, ◌+◌, ◌*◌, ◌^◌, ◌≤◌, List, [], ◌∷◌, ◌++◌, map, length, sum, refl, ◌∙◌, subst, inl, inr, mul-le-mul_right, pow-suc, arith}
use native.Mathlib.Nat.{pow-zero, pow-le-pow_left}
use Rattle.std.proofs.lemmas.List.{length-map, length-append}
use Rattle.std.proofs.lemmas.List.Sums.{sum_by-cons}
use Rattle.promise.proofs.Pigeons.{In, in_map, in_left, in_right}

-- one more in the first number
abbrev bump : List ℕ → List ℕ
bump [] = []
bump (k ∷ ks) = suc k ∷ ks

-- a first number, and then a list of f for what it leaves of the sum s
abbrev spread : (ℕ → List (List ℕ)) → ℕ → List (List ℕ)
spread f zero = map (λ ks. 0 ∷ ks) (f 0)
spread f (suc s) = map (λ ks. 0 ∷ ks) (f (suc s)) ++ map bump (spread f s)

abbrev pub every : ℕ → ℕ → List (List ℕ)
every zero s = [] ∷ []
every (suc m) s = [] ∷ spread (every m) s

in_spread : (f : ℕ → List (List ℕ)) (m : ℕ) → ((s : ℕ) (js : List ℕ) → length js ≤ m → sum js ≤ s → In js (f s))
    → (s j : ℕ) (js : List ℕ) → length js ≤ m → j + sum js ≤ s → In (j ∷ js) (spread f s)
in_spread f m h zero zero js hl ht = in_map (λ ks. 0 ∷ ks) js (f 0) (h 0 js hl (omega arith))
in_spread f m h (suc s) zero js hl ht =
    in_left (0 ∷ js) (map (λ ks. 0 ∷ ks) (f (suc s))) (map bump (spread f s)) (in_map (λ ks. 0 ∷ ks) js (f (suc s)) (h (suc s) js hl (omega arith)))
in_spread f m h zero (suc j) js hl ht = absurd (omega arith)
in_spread f m h (suc s) (suc j) js hl ht =
    in_right (suc j ∷ js) (map (λ ks. 0 ∷ ks) (f (suc s))) (map bump (spread f s))
    (in_map bump (j ∷ js) (spread f s) (in_spread f m h s j js hl (omega arith)))

pub in_every : (m s : ℕ) (js : List ℕ) → length js ≤ m → sum js ≤ s → In js (every m s)
in_every zero s [] hl ht = inl refl
in_every zero s (j ∷ js) hl ht = absurd (omega arith)
in_every (suc m) s [] hl ht = inl refl
in_every (suc m) s (j ∷ js) hl ht =
    inr (in_spread (every m) m (λ r ks. in_every m r ks) s j js (omega arith) (omega (arith, sum_by-cons (λ x. x) j js)))

pow_one : (b : ℕ) → b ^ 1 ≡ b
pow_one b = pow-suc b 0 ∙ rw (pow-zero b) (omega arith)

spread_length : (f : ℕ → List (List ℕ)) (b : ℕ) → ((s : ℕ) → length (f s) ≤ b ^ suc s)
    → (s : ℕ) → suc (length (spread f s)) ≤ suc b ^ suc s
spread_length f b h zero =
    let g : length (f 0) ≤ b = subst (λ x. length (f 0) ≤ x) (pow_one b) (h 0) in
    rw (pow_one (suc b)) (omega (arith, length-map (f 0) (λ ks. 0 ∷ ks)))
spread_length f b h (suc s) =
    let x : ℕ = suc b ^ suc s in
    let g : length (f (suc s)) ≤ b ^ suc s * b = subst (λ y. length (f (suc s)) ≤ y) (pow-suc b (suc s)) (h (suc s)) in
    let up : b ^ suc s * b ≤ x * b = mul-le-mul_right b (pow-le-pow_left (omega arith) (suc s)) in
    let ih : suc (length (spread f s)) ≤ x = spread_length f b h s in
    let e : suc b ^ suc (suc s) ≡ x * suc b = pow-suc (suc b) (suc s) in
    rw (e, length-append, length-map (f (suc s)) (λ ks. 0 ∷ ks), length-map (spread f s) bump) (omega (arith, g, up, ih))

one_pow : (s : ℕ) → 1 ^ s ≡ 1
one_pow zero = refl
one_pow (suc s) = pow-suc 1 s ∙ omega (arith, one_pow s)

pub every_length : (m s : ℕ) → length (every m s) ≤ suc m ^ suc s
every_length zero s = omega (arith, one_pow (suc s))
every_length (suc m) s = spread_length (every m) (suc m) (λ r. every_length m r) s
