-- Pairwise different things that each have a code in a list are no more than the list.
use Rattle.std.proofs.Common.{◌≡◌, suc, ◌≤◌, ◌⊎◌, List, [], ◌∷◌, ◌++◌, map, length, sym, refl, ap, ◌∙◌, subst, inl, inr, arith}
use Rattle.promise.specs.Promise.{All, Different}

abbrev pub In : {X : Type 0} → X → List X → Type 0
In x [] = ⊥
In x (y ∷ ys) = (x ≡ y) ⊎ In x ys

module _ {X : Type 0} where
  -- the list without one thing that is in it
  abbrev without : (ys : List X) (x : X) → In x ys → List X
  without [] x p = []
  without (y ∷ ys) x (inl e) = ys
  without (y ∷ ys) x (inr p) = y ∷ without ys x p

  length_without : (ys : List X) (x : X) (p : In x ys) → length ys ≡ suc (length (without ys x p))
  length_without [] x p = elim p [ ]
  length_without (y ∷ ys) x (inl e) = refl
  length_without (y ∷ ys) x (inr p) = ap suc (length_without ys x p)

  in_without : (ys : List X) (x : X) (p : In x ys) (z : X) → In z ys → (z ≡ x → ⊥) → In z (without ys x p)
  in_without [] x p z q ne = elim q [ ]
  in_without (y ∷ ys) x (inl e) z (inl d) ne = absurd (ne (d ∙ sym e))
  in_without (y ∷ ys) x (inl e) z (inr q) ne = q
  in_without (y ∷ ys) x (inr p) z (inl d) ne = inl d
  in_without (y ∷ ys) x (inr p) z (inr q) ne = inr (in_without ys x p z q ne)

  pub all_both : (P Q R : X → Type 0) → ((x : X) → P x → Q x → R x) → (xs : List X) → All P xs → All Q xs → All R xs
  all_both P Q R f [] p q = tt
  all_both P Q R f (x ∷ xs) p q = (f x p.0 q.0, all_both P Q R f xs p.1 q.1)

  pub all_map : (P R : X → Type 0) → ((x : X) → P x → R x) → (xs : List X) → All P xs → All R xs
  all_map P R f [] p = tt
  all_map P R f (x ∷ xs) p = (f x p.0, all_map P R f xs p.1)

  pub in_left : (x : X) (xs ys : List X) → In x xs → In x (xs ++ ys)
  in_left x [] ys p = elim p [ ]
  in_left x (z ∷ xs) ys (inl e) = inl e
  in_left x (z ∷ xs) ys (inr p) = inr (in_left x xs ys p)

  pub in_right : (x : X) (xs ys : List X) → In x ys → In x (xs ++ ys)
  in_right x [] ys p = p
  in_right x (z ∷ xs) ys p = inr (in_right x xs ys p)

module _ {X Y : Type 0} where
  pub in_map : (f : X → Y) (x : X) (xs : List X) → In x xs → In (f x) (map f xs)
  in_map f x [] p = elim p [ ]
  in_map f x (y ∷ ys) (inl e) = inl (ap f e)
  in_map f x (y ∷ ys) (inr p) = inr (in_map f x ys p)

  -- Coded x y: y is a code of x, and no code is that of two things
  pub pigeons : (Coded : X → Y → Type 0) → ((x z : X) (y : Y) → Coded x y → Coded z y → x ≡ z)
      → (xs : List X) (ys : List Y) → All (λ x. (y : Y) × In y ys × Coded x y) xs → Different xs → length xs ≤ length ys
  pigeons Coded one [] ys a d = omega arith
  pigeons Coded one (x ∷ xs) ys a d =
      let y : Y = a.0.0 in
      let p : In y ys = a.0.1 in
      let c : Coded x y = a.0.2 in
      let rest : All (λ z. (w : Y) × In w (without ys y p) × Coded z w) xs
      = all_both (λ z. (w : Y) × In w ys × Coded z w) (λ z. x ≡ z → ⊥) (λ z. (w : Y) × In w (without ys y p) × Coded z w)
      (λ z g ne. (g.0, in_without ys y p g.0 g.1 (λ e. ne (one x z y c (subst (Coded z) e g.2))), g.2)) xs a.1 d.0 in
      omega (arith, pigeons Coded one xs (without ys y p) rest d.1, length_without ys y p)
