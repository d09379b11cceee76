-- A table of quanta: each class's is a quantum, and one is set in its place.
use Rattle.std.specs.Prelude.{ℕ, zero, suc, ◌≤◌, List, [], ◌∷◌, map, ◌≡◌, ◌<◌, length, Ok, slice_index_or, refl}
use Rattle.std.proofs.Common.{arith, sym}
use Rattle.source.specs.declared.setting.Setting.{Setting}
use Rattle.pace.specs.Doubling.{ticks_of, quantum_at, set_answer}
use Rattle.std.proofs.lemmas.List.{get_or-map}
use Rattle.std.proofs.lemmas.Bool.{le-leb}

pub quantum_of : (qs : List (Setting 1 1000000)) (c : ℕ) (d : Setting 1 1000000) → c < length qs → (slice_index_or qs c d).value ≡ quantum_at (map ticks_of qs) c
quantum_of qs c d h = sym (get_or-map ticks_of qs c d 1000000 h)

pub quantum_bounds : (qs : List (Setting 1 1000000)) (c : ℕ) → (1 ≤ quantum_at (map ticks_of qs) c) × (quantum_at (map ticks_of qs) c ≤ 1000000)
quantum_bounds [] c = (omega arith, omega arith)
quantum_bounds (q ∷ qs) zero = (q.low, q.high)
quantum_bounds (q ∷ qs) (suc c) = quantum_bounds qs c

pub set_taken : (c q : ℕ) → c ≤ 7 → 1 ≤ q → q ≤ 1000000 → Ok tt ≡ set_answer c q
set_taken c q known low high = rw (le-leb c 7 known, le-leb 1 q low, le-leb q 1000000 high, set_answer) refl
