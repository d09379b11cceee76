-- Writing a field from its last byte to its first: the turns of the writer's loop.
use Rattle.std.proofs.Common.{◌≡◌, ℕ, ◌+◌, ◌-◌, ◌/◌, ◌%◌, ◌^◌, ◌<◌, ◌≤◌, true, cond, ltb, List, [], ◌∷◌, ◌++◌, length, drop, set, replicate, decimal, sym, ap, ◌∙◌, subst, inl, inr, append_assoc, arith}
use Rattle.std.proofs.lemmas.Fmt.{decimal_digit, decimal_step}
use Rattle.std.proofs.lemmas.List.{replicate_more, length_push, drop-set, drop_all}
use Rattle.std.proofs.lemmas.Bool.{cases_lt, lt-ltb}
use Rattle.rows.specs.Fields.{shown}

-- the first i bytes, where the digits of v are still to be written: spaces alone once none are left
abbrev pub front : ℕ → ℕ → List ℕ
front i v = cond (ltb 0 v) (shown i v) (replicate i 32)

-- the last of those bytes
abbrev pub last_byte : ℕ → ℕ
last_byte v = cond (ltb 0 v) (48 + v % 10) 32

-- a number of two digits or more is one digit longer than its front
front_shorter : (i v : ℕ) → v < 2 ^ 64 → 10 ≤ v → length (decimal v) ≤ i + 1 → length (decimal (v / 10)) ≤ i
front_shorter i v small big fits =
    let s : length (decimal v) ≡ length (decimal (v / 10)) + 1 = ap length (decimal_step v big small) ∙ length_push (decimal (v / 10)) (48 + v % 10) in
    omega arith

-- a number shown is its front and its last digit
shown_last : (i v : ℕ) → v < 2 ^ 64 → length (decimal v) ≤ i + 1 → shown (i + 1) v ≡ front i (v / 10) ++ (48 + v % 10) ∷ []
shown_last i v small fits =
    elim (cases_lt v 10) [
      | inl low ↦
          let d : decimal v ≡ (48 + v) ∷ [] = decimal_digit v low in
          let q : v / 10 ≡ 0 = omega arith in
          let m : v % 10 ≡ v = omega arith in
          let k : i + 1 - 1 ≡ i = omega arith in
          rw (d, q, m, k)
      | inr big ↦
          let d : decimal v ≡ decimal (v / 10) ++ (48 + v % 10) ∷ [] = decimal_step v big small in
          let n : length (decimal v) ≡ length (decimal (v / 10)) + 1 = ap length d ∙ length_push (decimal (v / 10)) (48 + v % 10) in
          let k : i + 1 - length (decimal v) ≡ i - length (decimal (v / 10)) = omega arith in
          let t : ltb 0 (v / 10) ≡ true = lt-ltb 0 (v / 10) (omega arith) in
          rw (k, d, t) (sym (append_assoc (replicate (i - length (decimal (v / 10))) 32) (decimal (v / 10)) ((48 + v % 10) ∷ [])))
    ]

front_last : (i v : ℕ) → v < 2 ^ 64 → (0 < v → length (decimal v) ≤ i + 1) → front (i + 1) v ≡ front i (v / 10) ++ last_byte v ∷ []
front_last i v small fits =
    elim (cases_lt 0 v) [
      | inl some ↦ let t : ltb 0 v ≡ true = lt-ltb 0 v some in rw t (shown_last i v small (fits some))
      | inr none ↦ let z : v ≡ 0 = omega arith in rw z (sym (replicate_more i 32))
    ]

-- the loop with i bytes to go: they will be the front of v, and with those written give the whole field
pub record ShownFrom (whole out : List ℕ) (i v : ℕ) : Type 0 where
  pub is : front i v ++ drop i out ≡ whole
  pub fits : 0 < v → length (decimal v) ≤ i

-- the last digit, which stands even for 0
pub shown_begun : (out : List ℕ) (i v : ℕ) → v < 2 ^ 64 → i + 1 ≡ length out → length (decimal v) ≤ i + 1
    → ShownFrom (shown (length out) v) (set out i (48 + v % 10)) i (v / 10)
shown_begun out i v small last fits =
    let d : drop i (set out i (48 + v % 10)) ≡ (48 + v % 10) ∷ [] =
    drop-set out i (48 + v % 10) (omega arith) ∙ ap (λ t. (48 + v % 10) ∷ t) (drop_all (i + 1) out (omega arith)) in
    record {
      is = rw (d, ← last) (sym (shown_last i v small fits));
      fits = λ some. front_shorter i v small (omega arith) fits;
    }

pub shown_more : (whole out : List ℕ) (i v x : ℕ) → v < 2 ^ 64 → 0 < i → i ≤ length out → x ≡ last_byte v → ShownFrom whole out i v
    → ShownFrom whole (set out (i - 1) x) (i - 1) (v / 10)
shown_more whole out i v x small some within byte st =
    let j = i - 1 in
    let k : i ≡ j + 1 = omega arith in
    let fits : 0 < v → length (decimal v) ≤ j + 1 = λ h. omega (arith, st.fits h) in
    let was : front (j + 1) v ++ drop (j + 1) out ≡ whole = subst (λ n. front n v ++ drop n out ≡ whole) k st.is in
    record {
      is = ap (λ t. front j (v / 10) ++ t) (drop-set out j x (omega arith))
          ∙ (ap (λ y. front j (v / 10) ++ (y ∷ drop (j + 1) out)) byte
          ∙ (sym (append_assoc (front j (v / 10)) (last_byte v ∷ []) (drop (j + 1) out))
          ∙ (ap (λ t. t ++ drop (j + 1) out) (sym (front_last j v small fits)) ∙ was)));
      fits = λ h. front_shorter j v small (omega arith) (fits (omega arith));
    }
