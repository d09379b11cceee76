-- Reading a field gives just the number that it shows.
use Rattle.std.proofs.Common.{◌≡◌, ℕ, zero, suc, ◌+◌, ◌-◌, ◌*◌, ◌/◌, ◌%◌, ◌^◌, ◌<◌, ◌≤◌, Bool, true, false, cond, eqb, ◌⊎◌, List, [], ◌∷◌, ◌++◌, length, replicate, Some, None, Ok, Err, decimal, Option, Result, sym, refl, ap, ◌∙◌, inl, inr, append_assoc, add-one, arith, lit<, length-append, pow-add}
use native.Mathlib.Nat.{pow-le-pow_right}
use lib.ListN.{length-replicate}
use Rattle.std.specs.Fmt.{digits, digits_onto, digit_glyph}
use Rattle.std.proofs.lemmas.Fmt.{decimal_digit, decimal_step, decimal_by_steps}
use Rattle.std.proofs.lemmas.List.{append-nil}
use Rattle.std.proofs.lemmas.Bool.{cases_Bool, cases_lt, le-leb, lt-leb, ne_eqb}
use Rattle.std.proofs.lemmas.Bool.Decides.{nat_tests}
use Rattle.rows.specs.declared.field.FieldFault.{FieldFault}
use Rattle.rows.specs.declared.field.FieldFault.TheVariants.{Limit}
use Rattle.rows.specs.Fields.{shown, scan, judged, field_read, FieldExact}
use Rattle.rows.proofs.Scans.{at_digit, room_for_digit, one_digit_more}

-- one more digit after a number that is not 0
scan_push : (xs : List ℕ) (begun : Bool) (a m d : ℕ) → d < 10 → 0 < m → scan begun a xs ≡ Some m
    → scan begun a (xs ++ (48 + d) ∷ []) ≡ Some (m * 10 + d)
scan_push [] true a m d low some e =
    let am : a ≡ m = cc in
    let z : eqb a 0 ≡ false = ne_eqb a 0 (λ k. omega arith) in
    at_digit true a (48 + d) [] (omega arith) (omega arith) z ∙ ap Some (let k : a * 10 + (48 + d - 48) ≡ m * 10 + d = omega arith in k)
scan_push [] false a m d low some e = let z : ◌≡◌ {A = ℕ} 0 1 = cc in absurd (omega arith)
scan_push (x ∷ xs) begun a m d low some e =
    let one = scan_push xs true (a * 10 + (x - 48)) m d low some in
    let two = scan_push xs begun a m d low some in
    grind arith

scan_decimal : (v : ℕ) → v < 2 ^ 64 → scan false 0 (decimal v) ≡ Some v
scan_decimal v small =
    decimal_by_steps (λ n ds. scan false 0 ds ≡ Some n)
    (λ n low. at_digit false 0 (48 + n) [] (omega arith) (omega arith) refl ∙ ap Some (let k : 0 * 10 + (48 + n - 48) ≡ n = omega arith in k))
    (λ n ds big e. scan_push ds false 0 (n / 10) (n % 10) (omega arith) (omega arith) e ∙ ap Some (let k : n / 10 * 10 + n % 10 ≡ n = omega arith in k))
    v small

scan_spaces : (k : ℕ) (ds : List ℕ) → scan false 0 (replicate k 32 ++ ds) ≡ scan false 0 ds
scan_spaces zero ds = refl
scan_spaces (suc k) ds = scan_spaces k ds

-- what is shown is read
pub scan_shown : (w v : ℕ) → v < 2 ^ 64 → scan false 0 (shown w v) ≡ Some v
scan_shown w v small = scan_spaces (w - length (decimal v)) (decimal v) ∙ scan_decimal v small

-- what follows a digit is a digit, and what it follows is not 0
after_digit : (a b : ℕ) (bs : List ℕ) (v : ℕ) → scan true a (b ∷ bs) ≡ Some v
    → (48 ≤ b) × (b ≤ 57) × (0 < a) × (scan true (a * 10 + (b - 48)) bs ≡ Some v)
after_digit a b bs v e = grind (arith, nat_tests)

-- the digits after a number of at most k digits
tail_decimal : (bs : List ℕ) (k a v : ℕ) → a < 10 ^ k → k + length bs ≤ 19 → scan true a bs ≡ Some v → decimal a ++ bs ≡ decimal v
tail_decimal [] k a v small fits e = let same : a ≡ v = cc in append-nil (decimal a) ∙ ap decimal same
tail_decimal (b ∷ bs) k a v small fits e =
    let c = after_digit a b bs v e in
    let n = a * 10 + (b - 48) in
    let wide : a * 10 + 9 < 2 ^ 64 = room_for_digit a k small (omega arith) in
    let more : decimal n ++ bs ≡ decimal v = tail_decimal bs (k + 1) n v (one_digit_more a k (b - 48) small (omega arith)) (omega arith) c.3 in
    let step : decimal n ≡ decimal (n / 10) ++ (48 + n % 10) ∷ [] = decimal_step n (omega arith) (omega arith) in
    let front : n / 10 ≡ a = omega arith in
    let last : 48 + n % 10 ≡ b = omega arith in
    let joined : decimal n ≡ decimal a ++ b ∷ [] = step ∙ (ap (λ m. decimal m ++ (48 + n % 10) ∷ []) front ∙ ap (λ m. decimal a ++ m ∷ []) last) in
    sym (append_assoc (decimal a) (b ∷ []) bs) ∙ (ap (λ t. t ++ bs) (sym joined) ∙ more)

-- the first byte: a space, or a digit
first_byte : (b : ℕ) (bs : List ℕ) (v : ℕ) → scan false 0 (b ∷ bs) ≡ Some v
    → ((b ≡ 32) × (scan false 0 bs ≡ Some v)) ⊎ ((48 ≤ b) × (b ≤ 57) × (scan true (0 * 10 + (b - 48)) bs ≡ Some v))
first_byte b bs v e = grind (arith, nat_tests)

-- what is read is spaces and then the number's digits
spaces_digits : (bs : List ℕ) (v : ℕ) → length bs ≤ 19 → scan false 0 bs ≡ Some v → (k : ℕ) × (bs ≡ replicate k 32 ++ decimal v)
spaces_digits [] v short e = let z : ◌≡◌ {A = ℕ} 0 1 = cc in absurd (omega arith)
spaces_digits (b ∷ bs) v short e =
    elim (first_byte b bs v e) [
      | inl h ↦
          let r = spaces_digits bs v (omega arith) h.1 in
          (suc r.0, rw h.0 (ap (λ t. 32 ∷ t) r.1))
      | inr h ↦
          let n = 0 * 10 + (b - 48) in
          let d : decimal n ≡ (48 + n) ∷ [] = decimal_digit n (omega arith) in
          let same : 48 + n ≡ b = omega arith in
          let more : decimal n ++ bs ≡ decimal v = tail_decimal bs 1 n v (omega arith) (omega arith) h.2 in
          (0, sym (ap (λ m. m ∷ bs) same) ∙ (sym (ap (λ t. t ++ bs) d) ∙ more))
    ]

-- what is read is shown
pub shown_scan : (bs : List ℕ) (v : ℕ) → length bs ≤ 19 → scan false 0 bs ≡ Some v → bs ≡ shown (length bs) v
shown_scan bs v short e =
    let p = spaces_digits bs v short e in
    let n : length bs ≡ p.0 + length (decimal v) = ap length p.1 ∙ (length-append (replicate p.0 32) (decimal v) ∙ ap (λ m. m + length (decimal v)) (length-replicate p.0 32)) in
    let k : p.0 ≡ length bs - length (decimal v) = omega arith in
    p.1 ∙ ap (λ m. replicate m 32 ++ decimal v) k

judged_within : (v limit : ℕ) → v ≤ limit → judged limit (Some v) ≡ Ok v
judged_within v limit h = rw (le-leb v limit h, judged)

judged_past : (v limit : ℕ) → limit < v → judged limit (Some v) ≡ Err Limit
judged_past v limit h = rw (lt-leb v limit h, judged)

-- digits never get fewer, and a number from 10 ^ j on has more than j of them
spelled_grows : (k n : ℕ) (acc : List ℕ) → length acc ≤ length (digits_onto k 10 false n acc)
spelled_grows zero n acc = omega arith
spelled_grows (suc k) n acc =
    elim (cases_Bool (eqb (n / 10) 0)) [
      | inl t ↦ rw (t, cond) (omega arith)
      | inr t ↦ rw (t, cond) (omega (arith, spelled_grows k (n / 10) (digit_glyph false (n % 10) ∷ acc)))
    ]

spelled_long : (j k n : ℕ) (acc : List ℕ) → j < k → 10 ^ j ≤ n → j + 1 + length acc ≤ length (digits_onto k 10 false n acc)
spelled_long j zero n acc h big = absurd (omega arith)
spelled_long zero (suc k) n acc h big =
    elim (cases_Bool (eqb (n / 10) 0)) [
      | inl t ↦ rw (t, cond) (omega arith)
      | inr t ↦ rw (t, cond) (omega (arith, spelled_grows k (n / 10) (digit_glyph false (n % 10) ∷ acc)))
    ]
spelled_long (suc j) (suc k) n acc h big =
    let p : 10 ^ (j + 1) ≡ 10 ^ j * 10 = pow-add 10 j 1 in
    let z : 0 ≤ j = omega arith in
    let q : 10 ^ 0 ≤ 10 ^ j = pow-le-pow_right (lit< tt) z in
    let more : 10 ^ j ≤ n / 10 = omega (arith, ap (λ m. 10 ^ m) (add-one j)) in
    let t : eqb (n / 10) 0 ≡ false = ne_eqb (n / 10) 0 (λ e. omega arith) in
    rw (t, cond) (omega (arith, spelled_long j k (n / 10) (digit_glyph false (n % 10) ∷ acc) (omega arith) more))

decimal_long : (v : ℕ) → 10 ^ 19 ≤ v → 20 ≤ length (decimal v)
unfolding digits
decimal_long v big = spelled_long 19 64 v [] (lit< tt) big

-- what is shown in at least so many bytes
pub length_shown_ge : (w v : ℕ) → (w ≤ length (shown w v)) × (length (decimal v) ≤ length (shown w v))
length_shown_ge w v =
    let n = length-append (replicate (w - length (decimal v)) 32) (decimal v) ∙ ap (λ m. m + length (decimal v)) (length-replicate (w - length (decimal v)) 32) in
    (omega arith, omega arith)

-- a number shown in at most 19 bytes is small
shown_small : (bs : List ℕ) (v : ℕ) → length bs ≤ 19 → bs ≡ shown (length bs) v → v < 2 ^ 64
shown_small bs v short is =
    elim (cases_lt v (10 ^ 19)) [
      | inl low ↦ omega arith
      | inr big ↦ absurd (let n = ap length is in omega (arith, decimal_long v big, (length_shown_ge (length bs) v).1))
    ]

judged_exact : (bs : List ℕ) (limit : ℕ) (o : Option ℕ) → length bs ≤ 19 → scan false 0 bs ≡ o → FieldExact (length bs) bs limit (judged limit o)
judged_exact bs limit None short e =
    λ v is. let back : scan false 0 bs ≡ Some v = ap (scan false 0) is ∙ scan_shown (length bs) v (shown_small bs v short is) in let z : ◌≡◌ {A = ℕ} 0 1 = cc in omega arith
judged_exact bs limit (Some v) short e =
    elim (cases_lt limit v) [
      | inl past ↦ rw (judged_past v limit past) (v, shown_scan bs v short e, past)
      | inr in_limit ↦ rw (judged_within v limit in_limit) (shown_scan bs v short e, in_limit)
    ]

-- a reading is right
pub field_exact : (bs : List ℕ) (limit : ℕ) (r : Result ℕ FieldFault) → length bs ≤ 19 → r ≡ field_read bs limit → FieldExact (length bs) bs limit r
field_exact bs limit r short e = rw e (judged_exact bs limit (scan false 0 bs) short refl)

-- a number that is shown and within the limit is read
pub field_back : (w v limit : ℕ) → v < 2 ^ 64 → v ≤ limit → field_read (shown w v) limit ≡ Ok v
field_back w v limit small h = ap (judged limit) (scan_shown w v small) ∙ judged_within v limit h
