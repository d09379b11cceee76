-- Lines of 36 bytes: what a foot writes to one, and how long a buffer is with one replaced.
use Rattle.std.proofs.Common.{◌≡◌, ℕ, ◌+◌, ◌*◌, ◌≤◌, List, [], ◌∷◌, ◌++◌, length, take, drop, set, ap, ◌∙◌, arith, length-append, length-drop}
use borrow.Rule.Slice.PartMut.{put_mid}
use Rattle.std.proofs.lemmas.List.{drop_all, append-nil, length-take-le}
use Rattle.page.specs.Pages.{lined}

-- a byte, and then all that follows it
pub first_and_rest : (xs s rest : List ℕ) (b : ℕ) → length xs ≡ 36 → s ≡ rest → put_mid 1 35 (set xs 0 b) s ≡ b ∷ rest
first_and_rest [] s rest b h e = absurd (omega arith)
first_and_rest (x ∷ xs) s rest b h e =
    let d : drop 35 xs ≡ [] = drop_all 35 xs (omega arith) in
    ap (λ t. b ∷ (s ++ t)) d ∙ ap (λ t. b ∷ t) (append-nil s ∙ e)

-- a buffer with a line replaced stays as long as it was
pub lined_length : (k : ℕ) (line buf : List ℕ) → length line ≡ 36 → 36 * k + 36 ≤ length buf → length (lined k line buf) ≡ length buf
lined_length k line buf size fits =
    length-append (take (36 * k) buf) (line ++ drop (36 * k + 36) buf)
    ∙ omega (arith, size, length-append line (drop (36 * k + 36) buf), length-drop (36 * k + 36) buf, length-take-le (36 * k) buf (let le : 36 * k ≤ length buf = omega arith in le))
