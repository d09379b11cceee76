-- The size of a file: which sizes are accepted, as what number of rows, and how a size is refused. For every width.
use Rattle.std.proofs.Common.{◌≡◌, ℕ, ◌*◌, ◌/◌, ◌%◌, ◌<◌, ◌≤◌, true, false, ◌&&◌, eqb, leb, Ok, Err, Result, sym, ap, ◌∙◌, inl, inr, arith}
use native.Mathlib.Nat.{div-add-mod, div-eq_of_eq-mul_right, mul-mod_right}
use Rattle.std.proofs.lemmas.Bool.{le-leb, leb-true, eq-eqb, eqb-true, and_from, and_parts, cases_Bool}
use Rattle.text.specs.declared.fault.FileFault.{FileFault}
use Rattle.text.specs.declared.fault.FileFault.TheVariants.{Size}
use Rattle.text.specs.Files.{row_count}

module _ (width most size : ℕ) where
  accepted : (eqb (size % width) 0 && leb (size / width) most) ≡ true → row_count width most size ≡ Ok (size / width)
  accepted t = rw (t, row_count)

  declined : (eqb (size % width) 0 && leb (size / width) most) ≡ false → row_count width most size ≡ Err Size
  declined t = rw (t, row_count)

  -- n rows within the limit are accepted
  pub count_back : (n : ℕ) → 0 < width → size ≡ width * n → n ≤ most → row_count width most size ≡ Ok n
  count_back n some e h =
      let d : size / width ≡ n = div-eq_of_eq-mul_right some e in
      let m : size % width ≡ 0 = ap (λ x. x % width) e ∙ mul-mod_right width n in
      accepted (and_from (eqb (size % width) 0) (leb (size / width) most) (eq-eqb (size % width) 0 m) (le-leb (size / width) most (omega arith))) ∙ ap Ok d

  -- what is accepted is so many rows, within the limit
  pub count_only : (n : ℕ) → row_count width most size ≡ Ok n → (size ≡ width * n) × (n ≤ most)
  count_only n e =
      elim (cases_Bool (eqb (size % width) 0 && leb (size / width) most)) [
        | inl t ↦
            let p = and_parts (eqb (size % width) 0) (leb (size / width) most) t in
            let same : size / width ≡ n = same_rows (sym (accepted t) ∙ e) in
            let m : size % width ≡ 0 = eqb-true (size % width) 0 p.0 in
            (sym (div-add-mod size width) ∙ (omega arith ∙ ap (λ x. width * x) same), omega (arith, leb-true (size / width) most p.1))
        | inr t ↦ let c = declined t in let z : ◌≡◌ {A = ℕ} 0 1 = cc in absurd (omega arith)
      ]
    where
      same_rows : {a b : ℕ} → ◌≡◌ {A = Result ℕ FileFault} (Ok a) (Ok b) → a ≡ b
      same_rows p = cc

  -- a size is refused in one way, and where it is no such number of rows
  pub count_refused : (f : FileFault) → row_count width most size ≡ Err f → f ≡ Size
  count_refused f e =
      elim (cases_Bool (eqb (size % width) 0 && leb (size / width) most)) [
        | inl t ↦ let c = accepted t in let z : ◌≡◌ {A = ℕ} 0 1 = cc in absurd (omega arith)
        | inr t ↦ same_fault (sym e ∙ declined t)
      ]
    where
      same_fault : {a b : FileFault} → ◌≡◌ {A = Result ℕ FileFault} (Err a) (Err b) → a ≡ b
      same_fault p = cc

  pub count_never : (f : FileFault) → 0 < width → row_count width most size ≡ Err f → (n : ℕ) → size ≡ width * n → n ≤ most → ⊥
  count_never f some e n is h = let c = count_back n some is h in let z : ◌≡◌ {A = ℕ} 0 1 = cc in omega arith
