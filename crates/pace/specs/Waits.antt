-- The waits of a ladder: where they come from, and that a sound ladder's keep the laws of a pace.
use Rattle.std.specs.Prelude.{◌≡◌, ℕ, ◌-◌, ◌*◌, ◌^◌, ◌<◌, ◌≤◌, min, List, [], ◌∷◌, length, slice_index, refl}
use Rattle.std.proofs.Common.{inl, inr, arith, sym, ◌∙◌, ap}
use Rattle.std.proofs.lemmas.Bool.{cases_lt, le-leb, lt-leb}
use Rattle.pace.specs.Laws.{forever}
use Rattle.pace.specs.Steps.{doubled, steps_quantum, steps_wait, ladder_of}
use Rattle.pace.specs.Doublings.{doubled_keeps}
use Rattle.pace.specs.Ladders.{Sound, ladder_length, ladder_at}
use Rattle.pace.specs.declared.ladder.ClassSteps.{ClassSteps}

pub quantum_first : (ps : List ℕ) → 0 < length ps → slice_index ps 0 ≡ steps_quantum ps
quantum_first [] h = absurd (omega arith)
quantum_first (p ∷ ps) h = refl

pub wait_at : (ps : List ℕ) (e : ℕ) → e < length ps → slice_index ps e ≡ steps_wait ps e
wait_at [] e h = absurd (omega arith)
wait_at (p ∷ ps) e h = let le : e ≤ length ps = omega arith in rw (le-leb e (length ps) le, steps_wait) refl

pub wait_past : (ps : List ℕ) (e : ℕ) → 0 < length ps → length ps ≤ e → doubled (slice_index ps (length ps - 1)) (e - (length ps - 1)) ≡ steps_wait ps e
wait_past [] e h le = absurd (omega arith)
wait_past (p ∷ ps) e h le =
    let more : length ps < e = omega arith in
    let n : length (p ∷ ps) - 1 ≡ length ps = omega arith in
    rw (n, lt-leb e (length ps) more, steps_wait) refl

-- the same, by the steps as the class keeps them
module _ (s : ClassSteps) (e : ℕ) where
  pub kept_wait_at : e < s.count → slice_index s.waits e ≡ steps_wait (ladder_of s) e
  kept_wait_at h = sym (ladder_at s e h) ∙ wait_at (ladder_of s) e (omega (arith, ladder_length s))

  pub kept_wait_past : 0 < s.count → s.count ≤ e → doubled (slice_index s.waits (s.count - 1)) (e - (s.count - 1)) ≡ steps_wait (ladder_of s) e
  kept_wait_past some h =
      let n = ladder_length s in
      let last : s.count - 1 < s.count = omega arith in
      ap (λ w. doubled w (e - (s.count - 1))) (sym (ladder_at s (s.count - 1) last))
      ∙ (ap (λ k. doubled (slice_index (ladder_of s) (k - 1)) (e - (k - 1))) (sym n) ∙ wait_past (ladder_of s) e (omega arith) (omega arith))

module _ (ps : List ℕ) (s : Sound ps) (some : 0 < length ps) where
  step_low : (e : ℕ) → min (slice_index ps 0 * 2 ^ e) forever ≤ steps_wait ps e
  step_low e =
      elim (cases_lt e (length ps)) [
        | inl h ↦ omega (arith, wait_at ps e h, s.rising e h)
        | inr h ↦
            let m : length ps - 1 < length ps = omega arith in
            rw (← wait_past ps e some h) (doubled_keeps (slice_index ps 0) (slice_index ps (length ps - 1)) (length ps - 1) e (s.rising (length ps - 1) m) (omega arith))
      ]

  step_high : (e : ℕ) → steps_wait ps e ≤ forever
  step_high e =
      elim (cases_lt e (length ps)) [
        | inl h ↦ omega (arith, wait_at ps e h, s.within e h)
        | inr h ↦ omega (arith, wait_past ps e some h)
      ]

pub quantum_low : (ps : List ℕ) → Sound ps → 1 ≤ steps_quantum ps
quantum_low [] s = omega arith
quantum_low (p ∷ ps) s = s.low (omega arith)

pub quantum_high : (ps : List ℕ) → Sound ps → steps_quantum ps ≤ 1000000
quantum_high [] s = omega arith
quantum_high (p ∷ ps) s = s.high (omega arith)

pub wait_low : (ps : List ℕ) → Sound ps → (e : ℕ) → min (steps_quantum ps * 2 ^ e) forever ≤ steps_wait ps e
wait_low [] s e = omega arith
wait_low (p ∷ ps) s e = step_low (p ∷ ps) s (omega arith) e

pub wait_high : (ps : List ℕ) → Sound ps → (e : ℕ) → steps_wait ps e ≤ forever
wait_high [] s e = omega arith
wait_high (p ∷ ps) s e = step_high (p ∷ ps) s (omega arith) e
