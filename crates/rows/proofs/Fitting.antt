-- Numbers within their columns' limits: the test column by column, and what it gives.
use Rattle.std.proofs.Common.{◌≡◌, ℕ, ◌^◌, ◌<◌, ◌≤◌, true, ◌&&◌, leb, List, [], ◌∷◌, length, decimal, refl, ap, arith, lit<}
use native.Mathlib.Nat.{pow-le-pow_right}
use Rattle.std.proofs.lemmas.Fmt.{length-decimal-le}
use Rattle.std.proofs.lemmas.Bool.{leb-true, and_parts}
use Rattle.std.specs.List.{list_all, zip}
use Rattle.rows.specs.declared.column.Column.{Column}
use Rattle.rows.specs.Columns.{Shape, shape, shapes}
use Rattle.rows.specs.Rows.{Within, fits}

-- what a column keeps
pub record Sound (s : Shape) : Type 0 where
  pub some : 1 ≤ s.width
  pub narrow : s.width ≤ 19
  pub holds : s.limit < 10 ^ s.width

abbrev pub AllSound : List Shape → Type 0
AllSound [] = Unit {0}
AllSound (s ∷ ss) = Sound s × AllSound ss

pub column_sound : (c : Column) → Sound (shape c.width c.limit)
column_sound c = record { some = c.some; narrow = c.narrow; holds = c.fits }

pub sound : (cs : List Column) → AllSound (shapes cs)
sound [] = tt
sound (c ∷ cs) = (column_sound c, sound cs)

-- a number within the limit is small, and its digits have room
pub small : (s : Shape) → Sound s → (v : ℕ) → v ≤ s.limit → v < 2 ^ 64
small s ok v h =
    let w : s.width ≤ 19 = ok.narrow in
    let p : 10 ^ s.width ≤ 10 ^ 19 = pow-le-pow_right (lit< tt) w in
    omega (arith, ok.holds)

pub digits_fit : (s : Shape) → Sound s → (v : ℕ) → v ≤ s.limit → length (decimal v) ≤ s.width
digits_fit s ok v h = length-decimal-le s.width v ok.some (omega (arith, ok.holds)) (small s ok v h)

pub fits_within : (ss : List Shape) (vs : List ℕ) → fits ss vs ≡ true → Within ss vs
fits_within [] [] e = tt
fits_within [] (v ∷ vs) e = let z : ◌≡◌ {A = ℕ} 0 1 = cc in absurd (omega arith)
fits_within (s ∷ ss) [] e = let z : ◌≡◌ {A = ℕ} 0 1 = cc in absurd (omega arith)
fits_within (s ∷ ss) (v ∷ vs) e =
    let p = and_parts (leb v s.limit) (fits ss vs) e in
    (leb-true v s.limit p.0, fits_within ss vs p.1)

-- the test, column by column
pub fits_zip : (cs : List Column) (vs : List ℕ) → length vs ≡ length cs → list_all (λ (p : ℕ × Column). leb p.0 p.1.limit) (zip vs cs) ≡ fits (shapes cs) vs
fits_zip [] [] e = refl
fits_zip [] (v ∷ vs) e = absurd (omega arith)
fits_zip (c ∷ cs) [] e = absurd (omega arith)
fits_zip (c ∷ cs) (v ∷ vs) e = ap (λ t. leb v c.limit && t) (fits_zip cs vs (omega arith))
