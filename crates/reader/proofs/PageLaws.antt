-- Pages as files of lines: what is shown is read, and what is read was shown and fits.
use Rattle.std.proofs.Common.{◌≡◌, ℕ, zero, suc, ◌+◌, ◌*◌, ◌≤◌, List, [], ◌∷◌, ◌++◌, map, length, take, drop, Ok, Err, Result, sym, refl, ap, ◌∙◌, subst, append_assoc, mul-suc, arith}
use Rattle.std.specs.List.{flat_map}
use Rattle.std.proofs.lemmas.List.{append-nil, take-take, drop-take}
use Rattle.rows.specs.declared.fault.RowFault.{RowFault}
use Rattle.rows.specs.Columns.{page_row}
use Rattle.rows.proofs.RowLaws.{length_row}
use Rattle.text.specs.Files.{Reading, on_row, read_rows}
use Rattle.text.proofs.FileLaws.{Kind, put_all, FitAll}
use Rattle.tally.specs.declared.line.PageRow.{PageRow}
use Rattle.tally.specs.declared.account.Tally.{Tally}
use Rattle.tally.specs.Tallies.{begun, taken, tallied}
use Rattle.page.specs.Pages.{row_bytes}
use Rattle.reader.specs.PageFiles.{rows_shown, Fits, line_read, onto, page_step}
use Rattle.reader.proofs.Turns.{Takes, line_only, line_back, page_sound, takes_within, line_numbers}
use Rattle.reader.proofs.PageReading.{counted_push}

-- a line of a page: a row and its number
pub record Line : Type 0 where
  pub number : ℕ
  pub row : PageRow

module _ (opening : ℕ) where
  pub record LineFits (rs : List PageRow) (l : Line) : Type 0 where
    pub number : l.number ≡ (tallied opening rs).rows + 1
    pub few : (tallied opening rs).rows + 1 ≤ 999999
    pub takes : Takes (tallied opening rs) l.row

  pub step_parts : (rs t : List PageRow) (x : Result PageRow RowFault) → onto rs x ≡ Ok t → (r : PageRow) × (x ≡ Ok r) × (t ≡ rs ++ r ∷ [])
  step_parts rs t (Ok r) e = let u : rs ++ r ∷ [] ≡ t = cc in (r, refl, sym u)
  step_parts rs t (Err f) e = let z : ◌≡◌ {A = ℕ} 0 1 = cc in absurd (omega arith)

  abbrev pub lines : Kind (List PageRow) Line (page_step opening) 36
  lines =
      record {
        show = λ l. row_bytes l.number l.row;
        put = λ rs l. rs ++ l.row ∷ [];
        Fits = LineFits;
        long = λ rs l f.
            ap (λ n. length (row_bytes n l.row)) f.number
            ∙ length_row page_row (line_numbers ((tallied opening rs).rows + 1) l.row) page_sound (takes_within (tallied opening rs) l.row f.few f.takes);
        back = λ rs l f.
            ap (λ n. onto rs (line_read (tallied opening rs) (row_bytes n l.row))) f.number
            ∙ ap (onto rs) (line_back (tallied opening rs) l.row f.few f.takes);
        only = λ rs row t e.
            let p = step_parts rs t (line_read (tallied opening rs) row) e in
            let q = line_only (tallied opening rs) row p.0 p.1 in
            (record { number = (tallied opening rs).rows + 1; row = p.0 }, q.0, p.2, record { number = refl; few = q.2; takes = q.1 });
      }

  abbrev pub rows_of : List Line → List PageRow
  rows_of ls = map (λ (l : Line). l.row) ls

  tallied_push : (rs : List PageRow) (r : PageRow) → tallied opening (rs ++ r ∷ []) ≡ taken (tallied opening rs) r
  tallied_push rs r = counted_push (begun opening) rs r

  -- lines that fit are the rows, numbered on from those before
  pub lines_shown : (rs : List PageRow) (ls : List Line) → FitAll (page_step opening) 36 lines rs ls
      → flat_map lines.show ls ≡ rows_shown ((tallied opening rs).rows + 1) (rows_of ls)
  lines_shown rs [] f = refl
  lines_shown rs (l ∷ ls) f =
      ap (λ n. row_bytes n l.row ++ flat_map lines.show ls) f.0.number
      ∙ ap (λ x. row_bytes ((tallied opening rs).rows + 1) l.row ++ x)
      (lines_shown (rs ++ l.row ∷ []) ls f.1 ∙ ap (λ (t : Tally). rows_shown (t.rows + 1) (rows_of ls)) (tallied_push rs l.row))

  pub lines_put : (rs : List PageRow) (ls : List Line) → put_all (page_step opening) 36 lines rs ls ≡ rs ++ rows_of ls
  lines_put rs [] = sym (append-nil rs)
  lines_put rs (l ∷ ls) = lines_put (rs ++ l.row ∷ []) ls ∙ append_assoc rs (l.row ∷ []) (rows_of ls)

  pub lines_fit : (rs : List PageRow) (ls : List Line) → FitAll (page_step opening) 36 lines rs ls → Fits (tallied opening rs) (rows_of ls)
  lines_fit rs [] f = tt
  lines_fit rs (l ∷ ls) f =
      (f.0.takes.known, f.0.takes.orderly, subst (λ t. Fits t (rows_of ls)) (tallied_push rs l.row) (lines_fit (rs ++ l.row ∷ []) ls f.1))

  -- the lines of rows that fit
  abbrev pub numbered : ℕ → List PageRow → List Line
  numbered k [] = []
  numbered k (r ∷ rs) = record { number = k; row = r } ∷ numbered (k + 1) rs

  pub numbered_rows : (k : ℕ) (rs : List PageRow) → rows_of (numbered k rs) ≡ rs
  numbered_rows k [] = refl
  numbered_rows k (r ∷ rs) = ap (λ x. r ∷ x) (numbered_rows (k + 1) rs)

  pub numbered_fit : (rs more : List PageRow) → (tallied opening rs).rows + length more ≤ 50000 → Fits (tallied opening rs) more
      → FitAll (page_step opening) 36 lines rs (numbered ((tallied opening rs).rows + 1) more)
  numbered_fit rs [] few f = tt
  numbered_fit rs (r ∷ more) few f =
      let t : Tally = tallied opening rs in
      let e : tallied opening (rs ++ r ∷ []) ≡ taken t r = tallied_push rs r in
      let n : (tallied opening (rs ++ r ∷ [])).rows ≡ t.rows + 1 = ap (λ (x : Tally). x.rows) e in (
        record { number = refl; few = omega arith; takes = record { known = f.0; orderly = f.1 } },
        subst (λ k. FitAll (page_step opening) 36 lines (rs ++ r ∷ []) (numbered (k + 1) more)) n
            (numbered_fit (rs ++ r ∷ []) more (omega (arith, n)) (subst (λ x. Fits x more) (sym e) f.2)),
      )

-- the rows at the front are read alone
pub read_front : (step : List PageRow → List ℕ → Result (List PageRow) RowFault) (width n : ℕ) (bytes : List ℕ) (k : ℕ) (s : List PageRow)
    → read_rows step width n (take (width * n) bytes) k s ≡ read_rows step width n bytes k s
read_front step width zero bytes k s = refl
read_front step width (suc n) bytes k s =
    let m : width * suc n ≡ width + width * n = mul-suc width n ∙ omega arith in
    let le : width ≤ width + width * n = omega arith in
    let t : take width (take (width * suc n) bytes) ≡ take width bytes = ap (λ x. take width (take x bytes)) m ∙ take-take width (width + width * n) bytes le in
    let d : drop width (take (width * suc n) bytes) ≡ take (width * n) (drop width bytes) = ap (λ x. drop width (take x bytes)) m ∙ drop-take width (width * n) bytes in
    ap (λ row. on_row k s (step s row) (λ u. read_rows step width n (drop width (take (width * suc n) bytes)) (k + 1) u)) t
    ∙ on_same (step s (take width bytes)) (λ u. ap (λ x. read_rows step width n x (k + 1) u) d ∙ read_front step width n (drop width bytes) (k + 1) u)
  where
    on_same : (r : Result (List PageRow) RowFault) {f g : List PageRow → Reading (List PageRow)} → ((u : List PageRow) → f u ≡ g u) → on_row k s r f ≡ on_row k s r g
    on_same (Ok u) same = same u
    on_same (Err f) same = refl
