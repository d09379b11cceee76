-- Reading a field byte by byte: a digit that is read, and the number so far.
use Rattle.std.proofs.Common.{◌≡◌, ℕ, ◌+◌, ◌-◌, ◌*◌, ◌^◌, ◌<◌, ◌≤◌, Bool, true, false, ◌&&◌, eqb, leb, List, ◌∷◌, drop, Some, None, Option, arith, lit<, pow-add}
use native.Mathlib.Nat.{pow-le-pow_right}
use Rattle.std.proofs.lemmas.Bool.{le-leb, and_from}
use Rattle.std.specs.Option.{unwrap_or}
use Rattle.rows.specs.Fields.{scan}

is_digit : (b : ℕ) → 48 ≤ b → b ≤ 57 → (leb 48 b && leb b 57) ≡ true
is_digit b low high = and_from (leb 48 b) (leb b 57) (le-leb 48 b low) (le-leb b 57 high)

-- a digit, where one may stand
pub at_digit : (begun : Bool) (v b : ℕ) (bs : List ℕ) → 48 ≤ b → b ≤ 57 → (begun && eqb v 0) ≡ false
    → scan begun v (b ∷ bs) ≡ scan true (v * 10 + (b - 48)) bs
at_digit begun v b bs low high free = rw (is_digit b low high, scan, free, scan)

-- the number so far: none until a digit came
abbrev pub scan_from : Option ℕ → List ℕ → Option ℕ
scan_from None bs = scan false 0 bs
scan_from (Some v) bs = scan true v bs

-- the reader's loop at byte i
pub record ReadTo (bs : List ℕ) (i : ℕ) (value : Option ℕ) : Type 0 where
  pub rest : scan_from value (drop i bs) ≡ scan false 0 bs
  pub low : unwrap_or value 0 < 10 ^ i

-- a number of fewer than 19 digits has room for one more
pub room_for_digit : (v k : ℕ) → v < 10 ^ k → k < 19 → v * 10 + 9 < 2 ^ 64
room_for_digit v k small few =
    let h : k ≤ 18 = omega arith in
    let p : 10 ^ k ≤ 10 ^ 18 = pow-le-pow_right (lit< tt) h in omega arith

pub one_digit_more : (v k d : ℕ) → v < 10 ^ k → d ≤ 9 → v * 10 + d < 10 ^ (k + 1)
one_digit_more v k d small low = let p : 10 ^ (k + 1) ≡ 10 ^ k * 10 = pow-add 10 k 1 in omega arith
