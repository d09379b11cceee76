-- Schedules as files of rows: what is shown is read, what is read is shown, and what each refusal means.
use Rattle.std.proofs.Common.{◌≡◌, ℕ, ◌*◌, List, [], ◌∷◌, length, take, drop, Ok, Err, Result, sym, refl, ap, ◌∙◌, subst, inl, inr, arith}
use Rattle.pace.specs.declared.fault.StepFault.{StepFault}
use Rattle.pace.specs.Steps.{no_steps, added}
use Rattle.rows.specs.declared.fault.RowFault.{RowFault}
use Rattle.rows.specs.declared.fault.RowFault.TheVariants.{Step}
use Rattle.text.specs.declared.fault.FileFault.{FileFault}
use Rattle.text.specs.declared.fault.FileFault.TheVariants.{Row, Size}
use Rattle.rows.specs.Columns.{schedule_row}
use Rattle.rows.specs.Rows.{Within, row_read, row_shown}
use Rattle.text.specs.Schedules.{Entry, entry_numbers, entry_shown, entry_of, entry_answer, stepped, step_from, schedule_step, schedule_answer, schedule_read, Adds, EntryRefused, ScheduleExact}
use Rattle.rows.proofs.Fitting.{AllSound}
use Rattle.rows.proofs.Tables.{sound_table, row_placed}
use Rattle.rows.proofs.RowLaws.{length_row, row_back, row_shown_is, first_fault}
use Rattle.text.proofs.FileLaws.{Kind, put_all, FitAll}
use Rattle.text.proofs.WholeFiles.{whole_only, whole_size, whole_stops}

schedule_sound : AllSound schedule_row
schedule_sound = sound_table schedule_row refl

-- an entry whose step is taken, with a row of its own
abbrev EntryFits : List (List ℕ) → Entry → Type 0
EntryFits ladders e = (entry_answer ladders e ≡ Ok tt) × Within schedule_row (entry_numbers e)

abbrev put : List (List ℕ) → Entry → List (List ℕ)
put ladders e = added ladders e.«class» e.wait

entry_back : (ladders : List (List ℕ)) (e : Entry) → EntryFits ladders e → schedule_step ladders (entry_shown e) ≡ Ok (put ladders e)
entry_back ladders e f = ap (step_from ladders) (row_back 1 schedule_row (entry_numbers e) schedule_sound f.1) ∙ ap (stepped ladders e.«class» e.wait) f.0

-- the numbers of a row within the limits are those of its entry
numbers_back : (vs : List ℕ) → Within schedule_row vs → vs ≡ entry_numbers (entry_of vs)
numbers_back vs w = row_placed schedule_row vs w

module _ (ladders : List (List ℕ)) (row : List ℕ) where
  -- a row that was read shows its entry
  shown_entry : (vs : List ℕ) → row_read 1 schedule_row row ≡ Ok vs → (row ≡ entry_shown (entry_of vs)) × Within schedule_row (entry_numbers (entry_of vs))
  shown_entry vs is =
      let s = row_shown_is 1 schedule_row row vs schedule_sound is in
      let n = numbers_back vs s.1 in
      (s.0 ∙ ap (row_shown schedule_row) n, subst (Within schedule_row) n s.1)

  entry_only : (t : List (List ℕ)) → schedule_step ladders row ≡ Ok t → (e : Entry) × (row ≡ entry_shown e) × (t ≡ put ladders e) × EntryFits ladders e
  entry_only t e = at_row (row_read 1 schedule_row row) refl e
    where
      taken : (x : Entry) (a : Result (Unit {0}) StepFault) → stepped ladders x.«class» x.wait a ≡ Ok t → (a ≡ Ok tt) × (t ≡ put ladders x)
      taken x (Ok u) h = (refl, cc)
      taken x (Err f) h = let z : ◌≡◌ {A = ℕ} 0 1 = cc in absurd (omega arith)

      at_row : (x : Result (List ℕ) RowFault) → row_read 1 schedule_row row ≡ x → step_from ladders x ≡ Ok t
          → (e : Entry) × (row ≡ entry_shown e) × (t ≡ put ladders e) × EntryFits ladders e
      at_row (Err f) is h = let z : ◌≡◌ {A = ℕ} 0 1 = cc in absurd (omega arith)
      at_row (Ok vs) is h =
          let s = shown_entry vs is in
          let a = taken (entry_of vs) (entry_answer ladders (entry_of vs)) h in
          (entry_of vs, s.0, a.1, (a.0, s.1))

  entry_refused : (f : RowFault) → schedule_step ladders row ≡ Err f → EntryRefused ladders row f
  entry_refused f e = at_row (row_read 1 schedule_row row) refl e
    where
      declined : (x : Entry) (a : Result (Unit {0}) StepFault) → stepped ladders x.«class» x.wait a ≡ Err f → (g : StepFault) × (f ≡ Step g) × (a ≡ Err g)
      declined x (Ok u) h = let z : ◌≡◌ {A = ℕ} 0 1 = cc in absurd (omega arith)
      declined x (Err g) h = (g, cc, refl)

      at_row : (x : Result (List ℕ) RowFault) → row_read 1 schedule_row row ≡ x → step_from ladders x ≡ Err f → EntryRefused ladders row f
      at_row (Err g) is h = let same : g ≡ f = cc in inl (first_fault 1 schedule_row row f schedule_sound (is ∙ ap Err same))
      at_row (Ok vs) is h =
          let a = declined (entry_of vs) (entry_answer ladders (entry_of vs)) h in
          let s = shown_entry vs is in
          inr (entry_of vs, a.0, s.0, s.1, a.1, a.2)

abbrev schedule_kind : Kind (List (List ℕ)) Entry schedule_step 17
schedule_kind = record {
  show = entry_shown;
  put = put;
  Fits = EntryFits;
  long = λ ladders e f. length_row schedule_row (entry_numbers e) schedule_sound f.1;
  back = entry_back;
  only = entry_only;
}

adds : (ladders : List (List ℕ)) (es : List Entry) (after : List (List ℕ)) → FitAll schedule_step 17 schedule_kind ladders es
    → after ≡ put_all schedule_step 17 schedule_kind ladders es → Adds ladders es after
adds ladders [] after f e = e
adds ladders (x ∷ es) after f e = (f.0.0, adds (put ladders x) es after f.1 e)

-- the promise of a reading
pub schedule_exact : (bytes : List ℕ) (old : List (List ℕ)) (r : Result ℕ FileFault) → r ≡ schedule_answer bytes → ScheduleExact bytes (schedule_read old bytes) r
schedule_exact bytes old (Ok n) e =
    let w = whole_only schedule_step 17 schedule_kind (omega arith) no_steps 128 old bytes n (sym e) in
    (w.items, w.long, w.shows, adds no_steps w.items (schedule_read old bytes) w.fits w.left)
schedule_exact bytes old (Err Size) e = λ n few l. whole_size schedule_step 17 schedule_kind (omega arith) no_steps 128 old bytes (sym e) n few l
schedule_exact bytes old (Err (Row f)) e =
    let w = whole_stops schedule_step 17 schedule_kind (omega arith) no_steps 128 old bytes f (sym e) in (
      w.items,
      w.number ∙ omega arith,
      w.shows,
      adds no_steps w.items (schedule_read old bytes) w.fits w.left,
      entry_refused (schedule_read old bytes) (take 17 (drop (17 * length w.items) bytes)) f.fault w.refused,
    )
