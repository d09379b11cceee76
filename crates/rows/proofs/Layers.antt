-- A fault with a number put on it: what was answered before.
use Rattle.std.proofs.Common.{◌≡◌, ℕ, Ok, Err, Result, sym, refl, ap, arith}
use Rattle.rows.specs.declared.fault.Numbered.{Numbered}
use Rattle.rows.specs.Faults.{numbered_answer}

module _ {T E : Type 0} where
  pub numbered_ok : (n : ℕ) (r : Result T E) (x : T) → Ok x ≡ numbered_answer n r → r ≡ Ok x
  numbered_ok n (Ok y) x e = let same : x ≡ y = cc in ap Ok (sym same)
  numbered_ok n (Err f) x e = let z : ◌≡◌ {A = ℕ} 0 1 = cc in absurd (omega arith)

  pub numbered_err : (n : ℕ) (r : Result T E) (y : Numbered E) → Err y ≡ numbered_answer n r → (f : E) × (r ≡ Err f) × (y ≡ record { number = n; fault = f })
  numbered_err n (Ok x) y e = let z : ◌≡◌ {A = ℕ} 0 1 = cc in absurd (omega arith)
  numbered_err n (Err f) y e = (f, refl, cc)
