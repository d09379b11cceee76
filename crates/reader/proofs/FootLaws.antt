-- A foot is read exactly where its bytes stand.
use Rattle.std.proofs.Common.{◌≡◌, ℕ, zero, suc, ◌-◌, ◌*◌, ◌^◌, ◌<◌, ◌≤◌, Bool, true, false, ◌&&◌, eqb, ltb, List, [], ◌∷◌, length, get_or, drop, Ok, Err, Result, sym, refl, ap, ◌∙◌, inl, inr, mul-le-mul_right, mul-le-mul, arith}
use Rattle.std.proofs.lemmas.Bool.{cases_Bool, and_parts, and_from, lt-ltb, ltb-true, eq-eqb, eqb-true}
use Rattle.promise.specs.Leaks.{most_of, share, over, exponent}
use Rattle.promise.proofs.Mosts.{most_of_is}
use Rattle.promise.proofs.Settling.{few}
use Rattle.rows.specs.declared.field.FieldFault.TheVariants.{Form}
use Rattle.rows.specs.declared.fault.RowFault.{RowFault}
use Rattle.rows.specs.declared.fault.RowFault.TheVariants.{Field, Order}
use Rattle.rows.specs.Columns.{foot_row}
use Rattle.rows.specs.Rows.{Within, row_read, row_shown}
use Rattle.rows.proofs.Fitting.{AllSound}
use Rattle.rows.proofs.Tables.{sound_table, row_placed}
use Rattle.rows.proofs.RowLaws.{row_back, row_shown_is, length_row}
use Rattle.tally.specs.declared.line.Foot.{Foot}
use Rattle.tally.specs.declared.account.Tally.{Tally}
use Rattle.tally.specs.Bits.{row_bits, occurs_in, count}
use Rattle.tally.specs.Tallies.{foot_of}
use Rattle.tally.proofs.Searches.{row_bits_is}
use Rattle.page.specs.Pages.{foot_bytes}
use Rattle.reader.specs.PageFiles.{same_foot, foot_from, foot_read}

pub foot_sound : AllSound foot_row
foot_sound = sound_table foot_row refl

abbrev pub foot_numbers : Foot → List ℕ
foot_numbers f = f.rows ∷ f.clock ∷ f.classes ∷ f.bits ∷ f.misses ∷ []

same_self : (f : Foot) → same_foot f (foot_numbers f) ≡ true
same_self f =
    and_from (eqb f.rows f.rows) _ (eq-eqb f.rows f.rows refl)
    (and_from (eqb f.clock f.clock) _ (eq-eqb f.clock f.clock refl)
    (and_from (eqb f.classes f.classes) _ (eq-eqb f.classes f.classes refl)
    (and_from (eqb f.bits f.bits) (eqb f.misses f.misses) (eq-eqb f.bits f.bits refl) (eq-eqb f.misses f.misses refl))))

-- a line that begins with "="
foot_begun : (f : Foot) (line : List ℕ) → 0 < length line → get_or line 0 0 ≡ 61 → foot_read f line ≡ foot_from f (row_read 2 foot_row (drop 1 line))
foot_begun f line some e =
    let t : (ltb 0 (length line) && eqb (get_or line 0 0) 61) ≡ true = and_from (ltb 0 (length line)) (eqb (get_or line 0 0) 61) (lt-ltb 0 (length line) some) (eq-eqb (get_or line 0 0) 61 e) in
    rw (t, foot_read) refl

-- what is shown is read
pub foot_back : (f : Foot) → Within foot_row (foot_numbers f) → foot_read f (foot_bytes f) ≡ Ok tt
foot_back f w =
    let o : foot_from f (Ok (foot_numbers f)) ≡ Ok tt = rw (same_self f, foot_from) refl in
    foot_begun f (foot_bytes f) (omega arith) refl ∙ ap (foot_from f) (row_back 2 foot_row (foot_numbers f) foot_sound w) ∙ o

numbers_same : (f : Foot) (vs : List ℕ) → Within foot_row vs → same_foot f vs ≡ true → vs ≡ foot_numbers f
numbers_same f vs w e =
    let p = and_parts (eqb (get_or vs 0 0) f.rows) _ e in
    let q = and_parts (eqb (get_or vs 1 0) f.clock) _ p.1 in
    let r = and_parts (eqb (get_or vs 2 0) f.classes) _ q.1 in
    let s = and_parts (eqb (get_or vs 3 0) f.bits) (eqb (get_or vs 4 0) f.misses) r.1 in
    row_placed foot_row vs w
    ∙ all_same (eqb-true _ f.rows p.0) (eqb-true _ f.clock q.0) (eqb-true _ f.classes r.0) (eqb-true _ f.bits s.0) (eqb-true _ f.misses s.1)
  where
    all_same : {v w x y z v' w' x' y' z' : ℕ} → v ≡ v' → w ≡ w' → x ≡ x' → y ≡ y' → z ≡ z'
        → ◌≡◌ {A = List ℕ} (v ∷ w ∷ x ∷ y ∷ z ∷ []) (v' ∷ w' ∷ x' ∷ y' ∷ z' ∷ [])
    all_same p q r s t = λ i. p i ∷ q i ∷ r i ∷ s i ∷ t i ∷ []

from_parts : (f : Foot) (x : Result (List ℕ) RowFault) → foot_from f x ≡ Ok tt → (vs : List ℕ) × (x ≡ Ok vs) × (same_foot f vs ≡ true)
from_parts f (Err e) h = let z : ◌≡◌ {A = ℕ} 0 1 = cc in absurd (omega arith)
from_parts f (Ok vs) h =
    elim (cases_Bool (same_foot f vs)) [
      | inl t ↦ (vs, refl, t)
      | inr t ↦ (let o : foot_from f (Ok vs) ≡ Err Order = rw (t, foot_from) refl in absurd (never (sym o ∙ h)))
    ]
  where
    never : {e : RowFault} → ◌≡◌ {A = Result (Unit {0}) RowFault} (Err e) (Ok tt) → ⊥
    never p = let z : ◌≡◌ {A = ℕ} 0 1 = cc in omega arith

-- what is read was shown
pub foot_only : (f : Foot) (line : List ℕ) → foot_read f line ≡ Ok tt → line ≡ foot_bytes f
foot_only f line h =
    elim (cases_Bool (ltb 0 (length line) && eqb (get_or line 0 0) 61)) [
      | inl t ↦
          (let p = and_parts (ltb 0 (length line)) (eqb (get_or line 0 0) 61) t in
          let o : foot_read f line ≡ foot_from f (row_read 2 foot_row (drop 1 line)) = rw (t, foot_read) refl in
          let q = from_parts f (row_read 2 foot_row (drop 1 line)) (sym o ∙ h) in
          let s = row_shown_is 2 foot_row (drop 1 line) q.0 foot_sound q.1 in
          headed line (ltb-true 0 (length line) p.0) (eqb-true (get_or line 0 0) 61 p.1) ∙ ap (λ rest. 61 ∷ rest) (s.0 ∙ ap (row_shown foot_row) (numbers_same f q.0 s.1 q.2)))
      | inr t ↦ (let o : foot_read f line ≡ Err (Field (record { number = 1; fault = Form })) = rw (t, foot_read) refl in absurd (never (sym o ∙ h)))
    ]
  where
    headed : (xs : List ℕ) → 0 < length xs → get_or xs 0 0 ≡ 61 → xs ≡ 61 ∷ drop 1 xs
    headed [] some e = absurd (omega arith)
    headed (x ∷ xs) some e = ap (λ y. y ∷ xs) e

    never : {e : RowFault} → ◌≡◌ {A = Result (Unit {0}) RowFault} (Err e) (Ok tt) → ⊥
    never p = let z : ◌≡◌ {A = ℕ} 0 1 = cc in omega arith

pub length_foot : (f : Foot) → Within foot_row (foot_numbers f) → length (foot_bytes f) ≡ 36
length_foot f w = ap suc (length_row foot_row (foot_numbers f) foot_sound w)

-- the numbers of a foot are small
over_few : (n : ℕ) (f : ℕ → ℕ) (occurs : ℕ → Bool) → ((c : ℕ) → c < n → f c ≤ 29) → over n f occurs ≤ 29 * n
over_few zero f occurs h = omega arith
over_few (suc n) f occurs h =
    omega (arith, over_few n f occurs (λ c l. h c (omega arith)), shared (f n) (occurs n), h n (omega arith))
  where
    shared : (x : ℕ) (b : Bool) → share x b ≤ x
    shared x true = omega arith
    shared x false = omega arith

most_few : (q span : ℕ) → 1 ≤ q → span ≤ 1000000000 → most_of q span ≤ 29
most_few q span hq hs =
    let m = most_of_is q span hq hs in
    let n : ℕ = most_of q span in
    let one : 1 * (2 ^ n - 1) ≤ q * (2 ^ n - 1) = mul-le-mul_right (2 ^ n - 1) hq in
    few n span (omega (arith, one, m.fits)) hs

-- marks in a table of eight are at most eight
pub foot_within : (quanta : ℕ → ℕ) (t : Tally) → ((c : ℕ) → c ≤ 7 → 1 ≤ quanta c) → t.rows ≤ 50000 → t.opening ≤ t.clock → t.clock ≤ 1000000000
    → t.misses ≤ 9999 → count t.occurs ≤ 8 → Within foot_row (foot_numbers (foot_of quanta t))
foot_within quanta t low few since timely fair marks =
    let span : ℕ = t.clock - t.opening in
    let b : row_bits t.rows ≤ 16 = (row_bits_is t.rows few).least 16 (omega arith) in
    let o : over 8 (λ c. most_of (quanta c) span) (occurs_in t.occurs) ≤ 29 * 8
    = over_few 8 (λ c. most_of (quanta c) span) (occurs_in t.occurs) (λ c l. most_few (quanta c) span (low c (omega arith)) (omega arith)) in
    let e : exponent quanta span (occurs_in t.occurs) ≤ 233 = omega (arith, o) in
    let m : (foot_of quanta t).bits ≤ 16 * 233 = mul-le-mul b e in
    (omega arith, (timely, (omega arith, (omega (arith, m), (fair, tt)))))
