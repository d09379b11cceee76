-- Reading inverts writing, and nothing else reads as a row: proved once, for every layout.
use Rattle.std.proofs.Common.{◌≡◌, ℕ, ◌+◌, ◌≤◌, true, List, [], ◌∷◌, ◌++◌, length, take, drop, Ok, Err, Result, sym, refl, ap, ◌∙◌, subst, inl, inr, append_assoc, arith, length-append, length-take}
use Rattle.std.proofs.lemmas.List.{take_at, drop_at, take-append-drop, length-take-le}
use Rattle.std.proofs.lemmas.Bool.{cases_lt, cases_eq, ne_eqb}
use Rattle.rows.specs.declared.field.FieldFault.{FieldFault}
use Rattle.rows.specs.declared.fault.RowFault.{RowFault}
use Rattle.rows.specs.declared.fault.RowFault.TheVariants.{Newline}
use Rattle.rows.specs.Fields.{shown, field_read, FieldExact}
use Rattle.rows.specs.Columns.{Shape, widths}
use Rattle.rows.specs.Rows.{fields_shown, row_shown, Within, column_read, ended, before, on_field, row_read, RowExact, FirstFault, RowRefused, fits}
use Rattle.rows.proofs.Numerals.{length_shown_ge, field_exact, field_back}
use Rattle.rows.proofs.Columns.{short_column, whole_column}
use Rattle.rows.proofs.Fitting.{Sound, AllSound, small, digits_fit, fits_within}
use Rattle.rows.proofs.RowWriting.{length_shown}

pub length_fields : (ss : List Shape) (vs : List ℕ) → AllSound ss → Within ss vs → length (fields_shown ss vs) ≡ widths ss
length_fields [] [] ok w = refl
length_fields [] (v ∷ vs) ok w = absurd w
length_fields (s ∷ ss) [] ok w = absurd w
length_fields (s ∷ ss) (v ∷ vs) ok w =
    let a = length_shown s.width v (digits_fit s ok.0 v w.0) in
    let b = length_fields ss vs ok.1 w.1 in
    length-append (shown s.width v) (fields_shown ss vs) ∙ omega arith

-- a row has as many bytes as its layout says
pub length_row : (ss : List Shape) (vs : List ℕ) → AllSound ss → Within ss vs → length (row_shown ss vs) ≡ widths ss + 1
length_row ss vs ok w = length-append (fields_shown ss vs) (10 ∷ []) ∙ ap (λ n. n + 1) (length_fields ss vs ok w)

-- what is shown is read
pub row_back : (k : ℕ) (ss : List Shape) (vs : List ℕ) → AllSound ss → Within ss vs → row_read k ss (row_shown ss vs) ≡ Ok vs
row_back k [] [] ok w = refl
row_back k [] (v ∷ vs) ok w = absurd w
row_back k (s ∷ ss) [] ok w = absurd w
row_back k (s ∷ ss) (v ∷ vs) ok w =
    let n : length (shown s.width v) ≡ s.width = length_shown s.width v (digits_fit s ok.0 v w.0) in
    let a : row_shown (s ∷ ss) (v ∷ vs) ≡ shown s.width v ++ row_shown ss vs = append_assoc (shown s.width v) (fields_shown ss vs) (10 ∷ []) in
    let t : take s.width (row_shown (s ∷ ss) (v ∷ vs)) ≡ shown s.width v = ap (take s.width) a ∙ take_at (shown s.width v) (row_shown ss vs) s.width n in
    let d : drop s.width (row_shown (s ∷ ss) (v ∷ vs)) ≡ row_shown ss vs = ap (drop s.width) a ∙ drop_at (shown s.width v) (row_shown ss vs) s.width n in
    let room : s.width ≤ length (row_shown (s ∷ ss) (v ∷ vs)) = let l = ap length a ∙ length-append (shown s.width v) (row_shown ss vs) in omega arith in
    let c : column_read s.width s.limit (row_shown (s ∷ ss) (v ∷ vs)) ≡ Ok v =
    whole_column s.width s.limit (row_shown (s ∷ ss) (v ∷ vs)) room ∙ (ap (λ b. field_read b s.limit) t ∙ field_back s.width v s.limit (small s ok.0 v w.0) w.0) in
    let r : row_read (k + 1) ss (drop s.width (row_shown (s ∷ ss) (v ∷ vs))) ≡ Ok vs = ap (row_read (k + 1) ss) d ∙ row_back (k + 1) ss vs ok.1 w.1 in
    ap (λ x. on_field k x (row_read (k + 1) ss (drop s.width (row_shown (s ∷ ss) (v ∷ vs))))) c ∙ ap (before (v ∷ [])) r

-- the newline alone is read as no numbers
ended_shown : (row vs : List ℕ) → ended row ≡ Ok vs → (row ≡ 10 ∷ []) × (vs ≡ [])
ended_shown [] vs e = let z : ◌≡◌ {A = ℕ} 0 1 = cc in absurd (omega arith)
ended_shown (b ∷ []) vs e =
    elim (cases_eq b 10) [
      | inl is ↦ (ap (λ x. x ∷ []) is, sym (nothing (sym (ap (λ x. ended (x ∷ [])) is) ∙ e)))
      | inr apart ↦ let f : ended (b ∷ []) ≡ Err Newline = rw (ne_eqb b 10 apart, ended) in let z : ◌≡◌ {A = ℕ} 0 1 = cc in absurd (omega arith)
    ]
  where
    nothing : {us ws : List ℕ} → ◌≡◌ {A = Result (List ℕ) RowFault} (Ok us) (Ok ws) → us ≡ ws
    nothing p = cc
ended_shown (b ∷ c ∷ bs) vs e = let z : ◌≡◌ {A = ℕ} 0 1 = cc in absurd (omega arith)

-- a field at the front of a row is read rightly, also where the bytes run out
column_exact : (s : Shape) → Sound s → (row : List ℕ) → FieldExact s.width (take s.width row) s.limit (column_read s.width s.limit row)
column_exact s ok row =
    elim (cases_lt (length row) s.width) [
      | inl short ↦
          rw (short_column s.width s.limit row short)
          (λ v is. let n = ap length is in let t = length-take s.width row in omega (arith, (length_shown_ge s.width v).0))
      | inr room ↦
          let n : length (take s.width row) ≡ s.width = length-take-le s.width row room in
          let x = field_exact (take s.width row) s.limit _ (omega (arith, ok.narrow)) refl in
          rw (whole_column s.width s.limit row room) (subst (λ m. FieldExact m (take s.width row) s.limit (field_read (take s.width row) s.limit)) n x)
    ]

-- a field that was read shows its number
column_shown : (s : Shape) → Sound s → (row : List ℕ) (v : ℕ) → column_read s.width s.limit row ≡ Ok v → (take s.width row ≡ shown s.width v) × (v ≤ s.limit)
column_shown s ok row v e = subst (λ a. FieldExact s.width (take s.width row) s.limit a) e (column_exact s ok row)

-- a reading that went well, field by field
well : (k : ℕ) (r : Result ℕ FieldFault) (next : Result (List ℕ) RowFault) (vs : List ℕ) → on_field k r next ≡ Ok vs
    → (v : ℕ) × (us : List ℕ) × (r ≡ Ok v) × (next ≡ Ok us) × (vs ≡ v ∷ us)
well k (Ok v) (Ok us) vs e = (v, us, refl, refl, sym (same e))
  where
    same : {us ws : List ℕ} → ◌≡◌ {A = Result (List ℕ) RowFault} (Ok us) (Ok ws) → us ≡ ws
    same p = cc
well k (Ok v) (Err f) vs e = let z : ◌≡◌ {A = ℕ} 0 1 = cc in absurd (omega arith)
well k (Err f) next vs e = let z : ◌≡◌ {A = ℕ} 0 1 = cc in absurd (omega arith)

-- what is read is shown
pub row_shown_is : (k : ℕ) (ss : List Shape) (row vs : List ℕ) → AllSound ss → row_read k ss row ≡ Ok vs → (row ≡ row_shown ss vs) × Within ss vs
row_shown_is k [] row vs ok e = let p = ended_shown row vs e in rw (p.0, p.1) (refl, tt)
row_shown_is k (s ∷ ss) row vs ok e =
    let w = well k (column_read s.width s.limit row) (row_read (k + 1) ss (drop s.width row)) vs e in
    let v = w.0 in
    let us = w.1 in
    let c = column_shown s ok.0 row v w.2 in
    let r = row_shown_is (k + 1) ss (drop s.width row) us ok.1 w.3 in
    let whole : row ≡ row_shown (s ∷ ss) (v ∷ us) =
    sym (take-append-drop s.width row) ∙ (ap (λ t. t ++ drop s.width row) c.0 ∙ (ap (λ t. shown s.width v ++ t) r.0 ∙ sym (append_assoc (shown s.width v) (fields_shown ss us) (10 ∷ [])))) in
    rw w.4 (whole, (c.1, r.1))

-- a reading is right
pub row_exact : (k : ℕ) (ss : List Shape) (row : List ℕ) (r : Result (List ℕ) RowFault) → AllSound ss → r ≡ row_read k ss row → RowExact ss row r
row_exact k ss row (Ok vs) ok e = row_shown_is k ss row vs ok (sym e)
row_exact k ss row (Err f) ok e = λ vs w is. let back = ap (row_read k ss) is ∙ row_back k ss vs ok w in let z : ◌≡◌ {A = ℕ} 0 1 = cc in omega arith

-- after the fields, all but the newline alone is refused
ended_refused : (row : List ℕ) (f : RowFault) → ended row ≡ Err f → (f ≡ Newline) × (row ≡ 10 ∷ [] → ⊥)
ended_refused row f e = (fault row f e, λ is. let w = sym (ap ended is) ∙ e in let z : ◌≡◌ {A = ℕ} 0 1 = cc in omega arith)
  where
    same : {f g : RowFault} → ◌≡◌ {A = Result (List ℕ) RowFault} (Err f) (Err g) → f ≡ g
    same p = cc

    fault : (row : List ℕ) (f : RowFault) → ended row ≡ Err f → f ≡ Newline
    fault [] f e = cc
    fault (b ∷ []) f e = elim (cases_eq b 10) [
      | inl is ↦ let w = sym (ap (λ x. ended (x ∷ [])) is) ∙ e in let z : ◌≡◌ {A = ℕ} 0 1 = cc in absurd (omega arith)
      | inr apart ↦ let n : ended (b ∷ []) ≡ Err Newline = rw (ne_eqb b 10 apart, ended) in same (sym e ∙ n)
    ]
    fault (b ∷ c ∷ bs) f e = cc

-- a refusal names the first fault
pub first_fault : (k : ℕ) (ss : List Shape) (row : List ℕ) (f : RowFault) → AllSound ss → row_read k ss row ≡ Err f → FirstFault k ss row f
first_fault k [] row f ok e = ended_refused row f e
first_fault k (s ∷ ss) row f ok e =
    at_field (column_read s.width s.limit row) (column_exact s ok.0 row) (row_read (k + 1) ss (drop s.width row)) e
    (λ g h. first_fault (k + 1) ss (drop s.width row) g ok.1 h)
  where
    at_field : (r : Result ℕ FieldFault) → FieldExact s.width (take s.width row) s.limit r → (next : Result (List ℕ) RowFault) → on_field k r next ≡ Err f
        → ((g : RowFault) → next ≡ Err g → FirstFault (k + 1) ss (drop s.width row) g) → FirstFault k (s ∷ ss) row f
    at_field (Ok v) x (Ok us) h later = let z : ◌≡◌ {A = ℕ} 0 1 = cc in absurd (omega arith)
    at_field (Ok v) x (Err g) h later = let same : g ≡ f = cc in inr (v, x, subst (λ y. FirstFault (k + 1) ss (drop s.width row) y) same (later g refl))
    at_field (Err e) x next h later = inl (e, cc, x)

pub row_refused : (k : ℕ) (ss : List Shape) (row : List ℕ) (r : Result (List ℕ) RowFault) → AllSound ss → r ≡ row_read k ss row → RowRefused k ss row r
row_refused k ss row (Ok vs) ok e = tt
row_refused k ss row (Err f) ok e = first_fault k ss row f ok (sym e)

-- what a writing leaves
pub written : (ss : List Shape) (vs new : List ℕ) → AllSound ss → fits ss vs ≡ true → new ≡ row_shown ss vs
    → (new ≡ row_shown ss vs) × ((k : ℕ) → row_read k ss new ≡ Ok vs)
written ss vs new ok f e = (e, λ k. ap (row_read k ss) e ∙ row_back k ss vs ok (fits_within ss vs f))
