-- What a page's calls leave in its buffer is the page of the rows it took.
use Rattle.std.proofs.Common.{◌≡◌, ℕ, suc, ◌+◌, ◌*◌, ◌<◌, ◌≤◌, Bool, true, List, [], ◌∷◌, ◌++◌, length, take, drop, Ok, Err, Result, sym, refl, ap, ◌∙◌, subst, append_assoc, arith, length-append}
use Rattle.std.proofs.lemmas.List.{append-nil, take_at, length-take-le, length-set}
use Rattle.std.proofs.lemmas.List.Sums.{count_by-le-length}
use Rattle.rows.proofs.RowLaws.{length_row}
use Rattle.rows.specs.Columns.{page_row, foot_row}
use Rattle.rows.specs.Rows.{Within}
use Rattle.text.specs.declared.fault.FileFault.{FileFault}
use Rattle.tally.specs.declared.line.PageRow.{PageRow}
use Rattle.tally.specs.declared.line.PageFault.{PageFault}
use Rattle.tally.specs.declared.account.Tally.{Tally}
use Rattle.tally.specs.Tallies.{begun, taken, counted, tallied, row_answer, foot_of}
use Rattle.tally.proofs.Judging.{taken_parts}
use Rattle.page.specs.Pages.{row_bytes, foot_bytes, lined, RowLeaves}
use Rattle.page.proofs.Lines.{lined_length}
use Rattle.reader.specs.PageFiles.{rows_shown, page_shown, Fits, page_answer, page_read}
use Rattle.reader.specs.PageRuns.{Handed, Written, if_taken, accepted, last_tally, last_buf, closed, ReadsBack}
use Rattle.reader.proofs.Turns.{Takes, Ranges, ranges, page_sound, takes_within, line_numbers}
use Rattle.reader.proofs.PageReading.{counted_push}
use Rattle.reader.proofs.FootLaws.{foot_numbers, foot_within, length_foot}
use Rattle.reader.proofs.PageAnswers.{page_back}

-- where a page stands that has taken some rows
pub record Stands (opening : ℕ) (rs : List PageRow) (t : Tally) (buf : List ℕ) : Type 0 where
  pub account : t ≡ tallied opening rs
  pub fits : Fits (begun opening) rs
  pub count : t.rows ≡ length rs
  pub few : t.rows ≤ 50000
  pub since : t.opening ≤ t.clock
  pub timely : t.clock ≤ 1000000000
  pub fair : t.misses ≤ 9999
  pub table : length t.occurs ≡ 8
  pub room : 36 * t.rows + 36 ≤ length buf
  pub shown : take (36 * t.rows) buf ≡ rows_shown 1 rs

pub stands_first : (opening : ℕ) (buf : List ℕ) → opening ≤ 1000000000 → 36 ≤ length buf → Stands opening [] (begun opening) buf
stands_first opening buf within room =
    record {
      account = refl;
      fits = tt;
      count = refl;
      few = omega arith;
      since = omega arith;
      timely = within;
      fair = omega arith;
      table = refl;
      room = omega arith;
      shown = refl;
    }

fits_push : (t : Tally) (rs : List PageRow) (r : PageRow) → Fits t rs → Takes (counted t rs) r → Fits t (rs ++ r ∷ [])
fits_push t [] r f takes = (takes.known, takes.orderly, tt)
fits_push t (q ∷ rs) r f takes = (f.0, f.1, fits_push (taken t q) rs r f.2 takes)

shown_push : (k : ℕ) (rs : List PageRow) (r : PageRow) → rows_shown k (rs ++ r ∷ []) ≡ rows_shown k rs ++ row_bytes (k + length rs) r
shown_push k [] r = append-nil (row_bytes k r) ∙ ap (λ n. row_bytes n r) (let e : k ≡ k + 0 = omega arith in e)
shown_push k (q ∷ rs) r =
    ap (λ x. row_bytes k q ++ x) (shown_push (k + 1) rs r ∙ ap (λ n. rows_shown (k + 1) rs ++ row_bytes n r) (let e : k + 1 + length rs ≡ k + suc (length rs) = omega arith in e))
    ∙ sym (append_assoc (row_bytes k q) (rows_shown (k + 1) rs) (row_bytes (k + suc (length rs)) r))

-- the front of a buffer up to the end of a line that was replaced
lined_front : (k : ℕ) (line buf : List ℕ) → length line ≡ 36 → 36 * k + 36 ≤ length buf → take (36 * k + 36) (lined k line buf) ≡ take (36 * k) buf ++ line
lined_front k line buf size fits =
    let long : length (take (36 * k) buf ++ line) ≡ 36 * k + 36
    = length-append (take (36 * k) buf) line ∙ omega (arith, size, length-take-le (36 * k) buf (let le : 36 * k ≤ length buf = omega arith in le)) in
    ap (take (36 * k + 36)) (sym (append_assoc (take (36 * k) buf) line (drop (36 * k + 36) buf)))
    ∙ take_at (take (36 * k) buf ++ line) (drop (36 * k + 36) buf) (36 * k + 36) long

-- what a row that was taken has
answer_parts : (t : Tally) (r : PageRow) (room : ℕ) → row_answer t r room ≡ Ok tt → Takes t r × (t.rows < 50000) × (36 * t.rows + 72 ≤ room)
answer_parts t r room e = let k = taken_parts t r room e in (record { known = k.known; orderly = k.orderly }, k.few, k.fits)

module _ (opening : ℕ) (rs : List PageRow) (t : Tally) (buf : List ℕ) (st : Stands opening rs t buf) where
  stands_more : (r : PageRow) (u : Tally) (buf' : List ℕ) → row_answer t r (length buf) ≡ Ok tt → u ≡ taken t r → buf' ≡ lined t.rows (row_bytes (t.rows + 1) r) buf
      → Stands opening (rs ++ r ∷ []) u buf'
  stands_more r u buf' e eu eb =
      let p = answer_parts t r (length buf) e in
      let o : Ranges t r = ranges t r p.0.orderly in
      let line : List ℕ = row_bytes (t.rows + 1) r in
      let size : length line ≡ 36 = length_row page_row (line_numbers (t.rows + 1) r) page_sound (takes_within t r (omega (arith, p.1)) p.0) in
      let after : buf' ≡ lined t.rows line buf = eb in
      let long : length buf' ≡ length buf = ap length after ∙ lined_length t.rows line buf size (omega (arith, p.2)) in
      let rows_is : u.rows ≡ t.rows + 1 = ap (λ (x : Tally). x.rows) eu in
      let n : 36 * u.rows ≡ 36 * t.rows + 36 = omega (arith, rows_is) in
      record {
        account = eu ∙ ap (λ x. taken x r) st.account ∙ sym (counted_push (begun opening) rs r);
        fits = fits_push (begun opening) rs r st.fits (subst (λ x. Takes x r) st.account p.0);
        count = rows_is ∙ omega (arith, st.count, length-append rs (r ∷ []));
        few = omega (arith, rows_is, p.1);
        since = subst (λ (x : Tally). x.opening ≤ x.clock) (sym eu) (omega (arith, st.since, o.after));
        timely = subst (λ (x : Tally). x.clock ≤ 1000000000) (sym eu) o.within;
        fair = subst (λ (x : Tally). x.misses ≤ 9999) (sym eu) o.fair;
        table = ap (λ (x : Tally). length x.occurs) eu ∙ length-set t.occurs r.«class» true ∙ st.table;
        room = omega (arith, long, n, p.2);
        shown = ap (λ m. take m buf') n ∙ ap (take (36 * t.rows + 36)) after ∙ lined_front t.rows line buf size (omega (arith, p.2))
            ∙ ap (λ x. x ++ line) st.shown ∙ sym (shown_push 1 rs r ∙ ap (λ m. rows_shown 1 rs ++ row_bytes m r) (let k : 1 + length rs ≡ t.rows + 1 = omega (arith, st.count) in k));
      }

  -- what closing leaves is the page of the rows
  pub closed_is : (quanta : ℕ → ℕ) → ((c : ℕ) → c ≤ 7 → 1 ≤ quanta c) → closed quanta t buf ≡ page_shown quanta opening rs
  closed_is quanta low =
      let within : Within foot_row (foot_numbers (foot_of quanta t)) = foot_within quanta t low st.few st.since st.timely st.fair (omega (arith, count_by-le-length (λ (m : Bool). m) t.occurs, st.table)) in
      lined_front t.rows (foot_bytes (foot_of quanta t)) buf (length_foot (foot_of quanta t) within) st.room
      ∙ ap (λ x. x ++ foot_bytes (foot_of quanta t)) st.shown ∙ ap (λ x. rows_shown 1 rs ++ foot_bytes (foot_of quanta x)) st.account

-- from where a page stands, through the rows handed to it
stands_on : (opening : ℕ) (rs : List PageRow) (t : Tally) (buf : List ℕ) → Stands opening rs t buf → (hs : List Handed) → Written t buf hs
    → Stands opening (rs ++ accepted hs) (last_tally t hs) (last_buf buf hs)
stands_on opening rs t buf st [] w = subst (λ x. Stands opening x t buf) (sym (append-nil rs)) st
stands_on opening rs t buf st (h ∷ hs) w =
    by_answer h.answer w.0 w.1 (λ xs s. stands_on opening xs h.tally h.buf s hs w.2)
  where
    by_answer : (a : Result (Unit {0}) PageFault) → a ≡ row_answer t h.row (length buf) → RowLeaves h.row t h.tally buf h.buf a
        → ((xs : List PageRow) → Stands opening xs h.tally h.buf → Stands opening (xs ++ accepted hs) (last_tally h.tally hs) (last_buf h.buf hs))
        → Stands opening (rs ++ if_taken a h.row (accepted hs)) (last_tally h.tally hs) (last_buf h.buf hs)
    by_answer (Ok u) e leaves next =
        subst (λ xs. Stands opening xs (last_tally h.tally hs) (last_buf h.buf hs)) (append_assoc rs (h.row ∷ []) (accepted hs))
        (next (rs ++ h.row ∷ []) (stands_more opening rs t buf st h.row h.tally h.buf (sym e) leaves.0 leaves.1))
    by_answer (Err f) e leaves next =
        next rs (subst (λ x. Stands opening rs x h.buf) (sym leaves.0) (subst (Stands opening rs t) (sym leaves.1) st))

-- what a page's calls leave reads back as the rows that it took
pub reads_back : (quanta : ℕ → ℕ) (opening : ℕ) (bytes : List ℕ) (room : ℕ) → opening ≤ 1000000000 → ((c : ℕ) → c ≤ 7 → 1 ≤ quanta c)
    → (r : Result ℕ FileFault) → r ≡ page_answer quanta opening bytes room → ReadsBack quanta opening bytes room (page_read opening bytes room) r
reads_back quanta opening bytes room within low r er buf hs some written is fits =
    let rs : List PageRow = accepted hs in
    let st : Stands opening rs (last_tally (begun opening) hs) (last_buf buf hs)
    = stands_on opening [] (begun opening) buf (stands_first opening buf within some) hs written in
    let t : Tally = tallied opening rs in
    let same : last_tally (begun opening) hs ≡ t = st.account in
    let foot : Within foot_row (foot_numbers (foot_of quanta t))
    = subst (λ x. Within foot_row (foot_numbers (foot_of quanta x))) same
    (foot_within quanta (last_tally (begun opening) hs) low st.few st.since st.timely st.fair (omega (arith, count_by-le-length (λ (m : Bool). m) (last_tally (begun opening) hs).occurs, st.table))) in
    let e : bytes ≡ page_shown quanta opening rs = is ∙ closed_is opening rs (last_tally (begun opening) hs) (last_buf buf hs) st quanta low in
    let b = page_back quanta opening room rs (omega (arith, st.count, st.few)) fits st.fits foot in
    (er ∙ ap (λ x. page_answer quanta opening x room) e ∙ b.0, ap (λ x. page_read opening x room) e ∙ b.1)
