-- A line in its turn: what it reads as is a row that the page takes, and only such a row is read.
use Rattle.std.proofs.Common.{◌≡◌, ℕ, ◌+◌, ◌*◌, ◌<◌, ◌≤◌, true, ◌&&◌, eqb, ltb, leb, List, [], ◌∷◌, get_or, Ok, Err, Result, sym, refl, ap, ◌∙◌, subst, inl, inr, arith}
use Rattle.std.proofs.lemmas.Bool.{cases_Bool, and_parts, and_from, le-leb, leb-true, lt-ltb, eq-eqb, eqb-true}
use Rattle.rows.specs.declared.fault.RowFault.{RowFault}
use Rattle.rows.specs.declared.fault.RowFault.TheVariants.{Order}
use Rattle.rows.specs.Columns.{page_row}
use Rattle.rows.specs.Rows.{Within, row_read, row_shown}
use Rattle.rows.proofs.Fitting.{AllSound}
use Rattle.rows.proofs.Tables.{sound_table, row_placed}
use Rattle.rows.proofs.RowLaws.{row_back, row_shown_is}
use Rattle.tally.specs.declared.line.PageRow.{PageRow}
use Rattle.tally.specs.declared.line.PageFault.{PageFault}
use Rattle.tally.specs.declared.account.Tally.{Tally}
use Rattle.tally.specs.Tallies.{orderly, roomy, verdict, row_answer}
use Rattle.page.specs.Pages.{row_bytes}
use Rattle.reader.specs.PageFiles.{row_of, in_turn, turn_from, line_read}

pub page_sound : AllSound page_row
page_sound = sound_table page_row refl

-- the numbers of a row
abbrev pub line_numbers : ℕ → PageRow → List ℕ
line_numbers k r = k ∷ r.asked ∷ r.«class» ∷ r.release ∷ r.misses ∷ []

numbers_back : (vs : List ℕ) → Within page_row vs → vs ≡ line_numbers (get_or vs 0 0) (row_of vs)
numbers_back vs w = row_placed page_row vs w

-- a row that a page takes next, with a line of its own
pub record Takes (t : Tally) (r : PageRow) : Type 0 where
  pub known : r.«class» ≤ 7
  pub orderly : orderly t r ≡ true

turn_parts : (t : Tally) (x : Result (List ℕ) RowFault) (r : PageRow) → turn_from t x ≡ Ok r
    → (vs : List ℕ) × (x ≡ Ok vs) × (row_of vs ≡ r) × (get_or vs 0 0 ≡ t.rows + 1) × (orderly t (row_of vs) ≡ true)
turn_parts t (Err f) r e = let z : ◌≡◌ {A = ℕ} 0 1 = cc in absurd (omega arith)
turn_parts t (Ok vs) r e =
    elim (cases_Bool (eqb (get_or vs 0 0) (t.rows + 1) && orderly t (row_of vs))) [
      | inl b ↦
          (let p = and_parts (eqb (get_or vs 0 0) (t.rows + 1)) (orderly t (row_of vs)) b in
          let o : in_turn t vs ≡ Ok (row_of vs) = rw (b, in_turn) refl in
          (vs, refl, same (sym o ∙ e), eqb-true (get_or vs 0 0) (t.rows + 1) p.0, p.1))
      | inr b ↦ (let o : in_turn t vs ≡ Err Order = rw (b, in_turn) refl in absurd (never (sym o ∙ e)))
    ]
  where
    same : {a b : PageRow} → ◌≡◌ {A = Result PageRow RowFault} (Ok a) (Ok b) → a ≡ b
    same p = cc

    never : {a : PageRow} {f : RowFault} → ◌≡◌ {A = Result PageRow RowFault} (Err f) (Ok a) → ⊥
    never p = let z : ◌≡◌ {A = ℕ} 0 1 = cc in omega arith

-- what is read was shown, and is taken
pub line_only : (t : Tally) (line : List ℕ) (r : PageRow) → line_read t line ≡ Ok r → (line ≡ row_bytes (t.rows + 1) r) × Takes t r × (t.rows + 1 ≤ 999999)
line_only t line r e =
    let p = turn_parts t (row_read 1 page_row line) r e in
    let s = row_shown_is 1 page_row line p.0 page_sound p.1 in
    let n : p.0 ≡ line_numbers (t.rows + 1) r = numbers_back p.0 s.1 ∙ ap (λ k. line_numbers k (row_of p.0)) p.3 ∙ ap (line_numbers (t.rows + 1)) p.2 in
    let w : Within page_row (line_numbers (t.rows + 1) r) = subst (Within page_row) n s.1 in
    (s.0 ∙ ap (row_shown page_row) n, record { known = w.1.1.0; orderly = ap (orderly t) (sym p.2) ∙ p.4 }, w.0)

-- what the order and range say
pub record Ranges (t : Tally) (r : PageRow) : Type 0 where
  pub asked : r.asked ≤ r.release
  pub after : t.clock < r.release
  pub within : r.release ≤ 1000000000
  pub misses : r.misses ≤ 29
  pub fair : t.misses + r.misses ≤ 9999

pub ranges : (t : Tally) (r : PageRow) → orderly t r ≡ true → Ranges t r
ranges t r e =
    let p = and_parts (leb r.asked r.release) _ e in
    let q = and_parts (ltb t.clock r.release) _ p.1 in
    let s = and_parts (leb r.release 1000000000) _ q.1 in
    let u = and_parts (leb r.misses 29) (leb (t.misses + r.misses) 9999) s.1 in
    record {
      asked = leb-true r.asked r.release p.0;
      after = Rattle.std.proofs.lemmas.Bool.ltb-true t.clock r.release q.0;
      within = leb-true r.release 1000000000 s.0;
      misses = leb-true r.misses 29 u.0;
      fair = leb-true (t.misses + r.misses) 9999 u.1;
    }

pub takes_within : (t : Tally) (r : PageRow) → t.rows + 1 ≤ 999999 → Takes t r → Within page_row (line_numbers (t.rows + 1) r)
takes_within t r few takes =
    let o = ranges t r takes.orderly in
    (few, (omega (arith, o.asked, o.within), (takes.known, (o.within, (omega (arith, o.misses), tt)))))

-- what is shown and taken is read
pub line_back : (t : Tally) (r : PageRow) → t.rows + 1 ≤ 999999 → Takes t r → line_read t (row_bytes (t.rows + 1) r) ≡ Ok r
line_back t r few takes =
    let b : (eqb (t.rows + 1) (t.rows + 1) && orderly t r) ≡ true = and_from (eqb (t.rows + 1) (t.rows + 1)) (orderly t r) (eq-eqb (t.rows + 1) (t.rows + 1) refl) takes.orderly in
    let o : in_turn t (line_numbers (t.rows + 1) r) ≡ Ok r = rw (b, in_turn) refl in
    ap (turn_from t) (row_back 1 page_row (line_numbers (t.rows + 1) r) page_sound (takes_within t r few takes)) ∙ o

-- a row that is taken is answered so, where there is room
pub takes_answer : (t : Tally) (r : PageRow) (room : ℕ) → Takes t r → t.rows < 50000 → 36 * t.rows + 72 ≤ room → row_answer t r room ≡ Ok tt
takes_answer t r room takes few fits =
    let roomy_is : roomy t room ≡ true = and_from (ltb t.rows 50000) (leb (36 * t.rows + 72) room) (lt-ltb t.rows 50000 few) (le-leb (36 * t.rows + 72) room fits) in
    ap (λ x. verdict x (orderly t r) (roomy t room)) (le-leb r.«class» 7 takes.known)
    ∙ ap (λ x. verdict true x (roomy t room)) takes.orderly ∙ ap (verdict true true) roomy_is

-- and it is not refused
pub takes_not_refused : (t : Tally) (r : PageRow) (room : ℕ) (f : PageFault) → Takes t r → t.rows < 50000 → 36 * t.rows + 72 ≤ room → row_answer t r room ≡ Err f → ⊥
takes_not_refused t r room f takes few fits e = never (sym (takes_answer t r room takes few fits) ∙ e)
  where
    never : {g : PageFault} → ◌≡◌ {A = Result (Unit {0}) PageFault} (Ok tt) (Err g) → ⊥
    never p = let z : ◌≡◌ {A = ℕ} 0 1 = cc in omega arith
