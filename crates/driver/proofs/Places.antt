-- The place of a refusal fits its line: the row is one of the file, and the field one of the row.
use Rattle.std.proofs.Common.{◌≡◌, ℕ, zero, suc, ◌+◌, ◌<◌, ◌≤◌, min, ◌&&◌, leb, ◌⊎◌, List, [], ◌∷◌, length, take, drop, Some, None, Ok, Err, Option, Result, sym, refl, ap, ◌∙◌, subst, inl, inr, arith}
use Rattle.std.specs.Option.{unwrap_or}
use Rattle.std.proofs.lemmas.Bool.{cases_Bool}
use Rattle.source.specs.declared.reply.Reply.{Reply}
use Rattle.pace.specs.declared.fault.StepFault.{StepFault}
use Rattle.pace.specs.Steps.{has_step, no_steps}
use Rattle.rows.specs.declared.field.FieldFault.{FieldFault}
use Rattle.rows.specs.declared.fault.Numbered.{Numbered}
use Rattle.rows.specs.declared.fault.RowFault.{RowFault}
use Rattle.rows.specs.declared.fault.RowFault.TheVariants.{Field, Newline, Order, Step}
use Rattle.text.specs.declared.fault.FileFault.{FileFault}
use Rattle.text.specs.declared.fault.FileFault.TheVariants.{Row, Size}
use Rattle.text.specs.declared.pair.NoStep.{NoStep}
use Rattle.rows.specs.Columns.{Shape, list_row, schedule_row}
use Rattle.rows.specs.Rows.{column_read, ended, on_field, row_read}
use Rattle.text.specs.Files.{Reading, row_count, ending, on_row, read_rows, answer_of, file_answer}
use Rattle.text.specs.Lists.{reply_of, ordered, reply_from, last_asked, onto, list_step, list_read}
use Rattle.text.specs.Schedules.{stepped, step_from, schedule_step, schedule_read}
use Rattle.text.specs.Pairs.{pair_from}
use Rattle.text.specs.Refusals.{row_refusal, refusal_of}
use Rattle.driver.specs.declared.job.Place.{Place}
use Rattle.driver.specs.declared.job.JobFault.{JobFault}
use Rattle.driver.specs.declared.job.JobFault.TheVariants as fault
use Rattle.driver.specs.declared.job.File.{File}
use Rattle.driver.specs.declared.job.File.TheVariants as file
use Rattle.driver.specs.Jobs.{place_of, Refused}
use Rattle.driver.proofs.ListsRead.{listed, count_within, count_refused}

-- the field that a row's fault names, or 0
abbrev field_in : RowFault → ℕ
field_in (Field f) = f.number
field_in Newline = 0
field_in Order = 0
field_in (Step f) = 0

ended_field : (bytes : List ℕ) (f : RowFault) → ended bytes ≡ Err f → field_in f ≤ 0
ended_field [] f e = let s : Newline ≡ f = cc in subst (λ x. field_in x ≤ 0) s (omega arith)
ended_field (b ∷ []) f e = grind arith
ended_field (b ∷ c ∷ bs) f e = let s : Newline ≡ f = cc in subst (λ x. field_in x ≤ 0) s (omega arith)

on_field_is : (k : ℕ) (r : Result ℕ FieldFault) (next : Result (List ℕ) RowFault) (f : RowFault) → on_field k r next ≡ Err f
    → (field_in f ≡ k) ⊎ (next ≡ Err f)
on_field_is k (Ok v) (Ok ws) f e = absurd (let z : ◌≡◌ {A = ℕ} 0 1 = cc in omega arith)
on_field_is k (Ok v) (Err g) f e = inr e
on_field_is k (Err g) next f e = let s : Field (record { number = k; fault = g }) ≡ f = cc in inl (ap field_in (sym s))

row_field : (k : ℕ) (ss : List Shape) (bytes : List ℕ) (f : RowFault) → row_read k ss bytes ≡ Err f → field_in f ≤ k + length ss
row_field k [] bytes f e = let h = ended_field bytes f e in omega (arith, h)
row_field k (s ∷ ss) bytes f e =
    elim (on_field_is k (column_read s.width s.limit bytes) (row_read (k + 1) ss (drop s.width bytes)) f e) [
      | inl h ↦ omega (arith, h)
      | inr h ↦ (let g = row_field (k + 1) ss (drop s.width bytes) f h in omega (arith, g))
    ]

reply_field : (last : ℕ) (r : Result (List ℕ) RowFault) (f : RowFault) → ((g : RowFault) → r ≡ Err g → field_in g ≤ 9)
    → reply_from last r ≡ Err f → field_in f ≤ 9
reply_field last (Err g) f ih e = let s : g ≡ f = cc in subst (λ x. field_in x ≤ 9) s (ih g refl)
reply_field last (Ok vs) f ih e =
    elim (cases_Bool (leb last (reply_of vs).asked && leb (reply_of vs).asked (reply_of vs).ready)) [
      | inl t ↦ (let is : ordered last (reply_of vs) ≡ Ok (reply_of vs) = rw (t, ordered) refl in absurd (never (sym is ∙ e)))
      | inr t ↦ (let is : ordered last (reply_of vs) ≡ Err Order = rw (t, ordered) refl in
          let s : Order ≡ f = same (sym is ∙ e) in subst (λ x. field_in x ≤ 9) s (omega arith))
    ]
  where
    never : {a : Reply ℕ} {g : RowFault} → ◌≡◌ {A = Result (Reply ℕ) RowFault} (Ok a) (Err g) → ⊥
    never p = let z : ◌≡◌ {A = ℕ} 0 1 = cc in omega arith

    same : {g h : RowFault} → ◌≡◌ {A = Result (Reply ℕ) RowFault} (Err g) (Err h) → g ≡ h
    same p = cc

onto_field : (rs : List (Reply ℕ)) (r : Result (Reply ℕ) RowFault) (f : RowFault) → onto rs r ≡ Err f → r ≡ Err f
onto_field rs (Ok r) f e = absurd (let z : ◌≡◌ {A = ℕ} 0 1 = cc in omega arith)
onto_field rs (Err g) f e = cc

list_field : (rs : List (Reply ℕ)) (row : List ℕ) (f : RowFault) → list_step rs row ≡ Err f → field_in f ≤ 9
list_field rs row f e =
    reply_field (last_asked 0 rs) (row_read 1 list_row row) f (λ g h. let k = row_field 1 list_row row g h in omega (arith, k))
    (onto_field rs (reply_from (last_asked 0 rs) (row_read 1 list_row row)) f e)

stepped_field : (ladders : List (List ℕ)) (c wait : ℕ) (r : Result (Unit {0}) StepFault) (f : RowFault) → stepped ladders c wait r ≡ Err f → field_in f ≤ 9
stepped_field ladders c wait (Ok u) f e = absurd (let z : ◌≡◌ {A = ℕ} 0 1 = cc in omega arith)
stepped_field ladders c wait (Err g) f e = let s : Step g ≡ f = cc in subst (λ x. field_in x ≤ 9) s (omega arith)

schedule_from : (ladders : List (List ℕ)) (r : Result (List ℕ) RowFault) (f : RowFault) → ((g : RowFault) → r ≡ Err g → field_in g ≤ 9)
    → step_from ladders r ≡ Err f → field_in f ≤ 9
schedule_from ladders (Ok vs) f ih e = stepped_field ladders _ _ _ f e
schedule_from ladders (Err g) f ih e = let s : g ≡ f = cc in subst (λ x. field_in x ≤ 9) s (ih g refl)

schedule_field : (ladders : List (List ℕ)) (row : List ℕ) (f : RowFault) → schedule_step ladders row ≡ Err f → field_in f ≤ 9
schedule_field ladders row f e =
    schedule_from ladders (row_read 1 schedule_row row) f (λ g h. let k = row_field 1 schedule_row row g h in omega (arith, k)) e

-- a fault of a file of rows: its row is within the limit, and its field is as every row's
ending_fault : (n : ℕ) (o : Option (Numbered RowFault)) (f : Numbered RowFault) → ending n o ≡ Err (Row f) → o ≡ Some f
ending_fault n None f e = absurd (let z : ◌≡◌ {A = ℕ} 0 1 = cc in omega arith)
ending_fault n (Some g) f e = cc

module _ {S : Type 0} (step : S → List ℕ → Result S RowFault) (width : ℕ) (fields : (s : S) (row : List ℕ) (f : RowFault) → step s row ≡ Err f → field_in f ≤ 9) where
  on_row_is : (n k : ℕ) (s : S) (r : Result S RowFault) (next : S → Reading S) (f : Numbered RowFault) → ((g : RowFault) → r ≡ Err g → field_in g ≤ 9)
      → ((t : S) → (next t).fault ≡ Some f → (f.number < k + 1 + n) × (field_in f.fault ≤ 9))
      → (on_row k s r next).fault ≡ Some f → (f.number < k + suc n) × (field_in f.fault ≤ 9)
  on_row_is n k s (Ok t) next f one more e = let h = more t e in (omega (arith, h.0), h.1)
  on_row_is n k s (Err g) next f one more e =
      let is : record { number = k; fault = g } ≡ f = cc in
      subst (λ (x : Numbered RowFault). (x.number < k + suc n) × (field_in x.fault ≤ 9)) is (omega arith, one g refl)

  rows_fault : (n : ℕ) (bytes : List ℕ) (k : ℕ) (s : S) (f : Numbered RowFault) → (read_rows step width n bytes k s).fault ≡ Some f
      → (f.number < k + n) × (field_in f.fault ≤ 9)
  rows_fault zero bytes k s f e = absurd (let z : ◌≡◌ {A = ℕ} 0 1 = cc in omega arith)
  rows_fault (suc n) bytes k s f e =
      on_row_is n k s (step s (take width bytes)) (λ t. read_rows step width n (drop width bytes) (k + 1) t) f
      (λ g h. fields s (take width bytes) g h) (λ t h. rows_fault n (drop width bytes) (k + 1) t f h) e

  by_count : (start : S) (bytes : List ℕ) (most : ℕ) (f : Numbered RowFault) (o : Result ℕ FileFault)
      → ((n : ℕ) → o ≡ Ok n → n ≤ most) → ((g : FileFault) → o ≡ Err g → g ≡ Size)
      → answer_of step width start bytes o ≡ Err (Row f) → (f.number ≤ most) × (field_in f.fault ≤ 9)
  by_count start bytes most f (Ok n) few size e =
      let r = rows_fault n bytes 1 start f (ending_fault n (read_rows step width n bytes 1 start).fault f e) in
      (omega (arith, r.0, few n refl), r.1)
  by_count start bytes most f (Err g) few size e =
      let is = size g refl in absurd (let z : ◌≡◌ {A = ℕ} 0 1 = cc in omega arith)

  pub file_fault : (start : S) (bytes : List ℕ) (most : ℕ) (f : Numbered RowFault) → file_answer step width start bytes most ≡ Err (Row f)
      → (f.number ≤ most) × (field_in f.fault ≤ 9)
  file_fault start bytes most f e =
      by_count start bytes most f (row_count width most (length bytes))
      (λ n h. count_within width most (length bytes) n (sym h)) (λ g h. count_refused width most (length bytes) g (sym h)) e

-- a class without a step is one of the list's
pair_row : (ladders : List (List ℕ)) (k : ℕ) (rs : List (Reply ℕ)) (f : NoStep) → pair_from ladders k rs ≡ Err f → f.row < k + length rs
pair_row ladders k [] f e = absurd (let z : ◌≡◌ {A = ℕ} 0 1 = cc in omega arith)
pair_row ladders k (r ∷ rs) f e =
    elim (cases_Bool (has_step ladders r.«class»)) [
      | inl t ↦ (let is : pair_from ladders k (r ∷ rs) ≡ pair_from ladders (k + 1) rs = rw (t, pair_from) refl in
          let h = pair_row ladders (k + 1) rs f (sym is ∙ e) in omega (arith, h))
      | inr t ↦ (let is : pair_from ladders k (r ∷ rs) ≡ Err (record { row = k }) = rw (t, pair_from) refl in
          let s : k ≡ f.row = same (sym is ∙ e) in omega (arith, s))
    ]
  where
    same : {a : ℕ} {g : NoStep} → ◌≡◌ {A = Result (Unit {0}) NoStep} (Err (record { row = a })) (Err g) → a ≡ g.row
    same p = cc

-- a refusal line has room for the row and the field of the place
pub record Fits (p : Place) : Type 0 where
  pub row : unwrap_or p.refusal.row 0 ≤ 50000
  pub field : unwrap_or p.refusal.field 0 ≤ 9

row_fits : (k : File) (row : ℕ) (f : RowFault) → row ≤ 50000 → field_in f ≤ 9 → Fits (record { file = k; refusal = row_refusal row f })
row_fits k row (Field f) r c = record { row = r; field = c }
row_fits k row Newline r c = record { row = r; field = c }
row_fits k row Order r c = record { row = r; field = c }
row_fits k row (Step f) r c = record { row = r; field = c }

file_fits : (k : File) (f : FileFault) → ((g : Numbered RowFault) → f ≡ Row g → (g.number ≤ 50000) × (field_in g.fault ≤ 9))
    → Fits (record { file = k; refusal = refusal_of f })
file_fits k Size h = record { row = omega arith; field = omega arith }
file_fits k (Row g) h = row_fits k g.number g.fault (h g refl).0 (h g refl).1

pub place_fits : (schedule list : List ℕ) (room : ℕ) (f : JobFault) → Refused schedule list room f → Fits (place_of f)
place_fits schedule list room (fault.Schedule f) e =
    file_fits file.Schedule f (λ g is. let h = file_fault schedule_step 17 schedule_field no_steps schedule 128 g (e ∙ ap Err is) in (omega (arith, h.0), h.1))
place_fits schedule list room (fault.List f) e =
    file_fits file.List f (λ g is. let h = file_fault list_step 35 list_field [] list (min 50000 room) g (e.1 ∙ ap Err is) in (omega (arith, h.0), h.1))
place_fits schedule list room (fault.Pair f) e =
    let l = listed list room e.1.0 (sym e.1.1) in
    let r = pair_row (schedule_read no_steps schedule) 1 (list_read list room) f e.2 in
    record { row = omega (arith, r, l.long, l.few); field = omega arith }
place_fits schedule list room (fault.Page f) e = record { row = omega arith; field = omega arith }
