-- Whole pages: the rows and the foot.
use Rattle.std.proofs.Common.{◌≡◌, ℕ, ◌+◌, ◌*◌, ◌≤◌, List, [], ◌++◌, length, take, drop, Some, None, Ok, Err, Option, Result, sym, refl, ap, ◌∙◌, subst, arith}
use Rattle.std.specs.List.{flat_map}
use Rattle.std.proofs.lemmas.List.{take_at, length-take-le, length-map}
use Rattle.rows.specs.declared.fault.Numbered.{Numbered}
use Rattle.rows.specs.declared.fault.RowFault.{RowFault}
use Rattle.text.specs.declared.fault.FileFault.{FileFault}
use Rattle.std.specs.Borrow.{MutBor}
use Rattle.text.specs.Files.{Reading, ending, read_rows, Filled, fill, Holds}
use Rattle.text.specs.Lists.{over}
use Rattle.text.proofs.Buffers.{buffer_read}
use Rattle.text.proofs.FileLaws.{file_back, file_only, length_file, file_stops}
use Rattle.tally.specs.declared.line.PageRow.{PageRow}
use Rattle.tally.specs.declared.account.Tally.{Tally}
use Rattle.tally.specs.Tallies.{begun, tallied, foot_of}
use Rattle.reader.specs.PageFiles.{rows_shown, Fits, Reads, row_after, page_step, foot_read, foot_ending, rows_ending, reading}
use Rattle.reader.proofs.PageReading.{page_takes, page_refuses}
use Rattle.reader.proofs.PageLaws.{Line, lines, lines_shown, lines_put, lines_fit, rows_of, numbered, numbered_rows, numbered_fit, read_front}

module _ (opening : ℕ) where
  -- rows that were read without a fault
  pub record RowsRead (n : ℕ) (bytes : List ℕ) (rs : List PageRow) : Type 0 where
    pub count : length rs ≡ n
    pub shown : take (36 * n) bytes ≡ rows_shown 1 rs
    pub fits : Fits (begun opening) rs

  pub rows_only : (n : ℕ) (bytes : List ℕ) (rs : List PageRow) → 36 * n ≤ length bytes
      → reading opening bytes n ≡ record { left = rs; fault = None } → RowsRead n bytes rs
  rows_only n bytes rs long e =
      let f = file_only (page_step opening) 36 (lines opening) n (take (36 * n) bytes) 1 [] rs (length-take-le (36 * n) bytes long)
      (read_front (page_step opening) 36 n bytes 1 [] ∙ e) in
      let ls : List Line = f.0 in
      let is : rs ≡ rows_of opening ls = f.3 ∙ lines_put opening [] ls in
      record {
        count = ap length is ∙ length-map ls (λ (l : Line). l.row) ∙ f.1;
        shown = f.2 ∙ lines_shown opening [] ls f.4 ∙ ap (rows_shown 1) (sym is);
        fits = subst (Fits (begun opening)) (sym is) (lines_fit opening [] ls f.4);
      }

  -- what is shown is read, whatever comes behind it
  pub rows_length : (rs : List PageRow) → length rs ≤ 50000 → Fits (begun opening) rs → length (rows_shown 1 rs) ≡ 36 * length rs
  rows_length rs few fits =
      let ls : List Line = numbered opening 1 rs in
      let fit = numbered_fit opening [] rs (omega arith) fits in
      let n : length ls ≡ length rs = sym (length-map ls (λ (l : Line). l.row)) ∙ ap length (numbered_rows opening 1 rs) in
      sym (ap (λ x. length (rows_shown 1 x)) (numbered_rows opening 1 rs)) ∙ sym (ap length (lines_shown opening [] ls fit))
      ∙ length_file (page_step opening) 36 (lines opening) [] ls fit ∙ ap (λ k. 36 * k) n

  pub rows_back : (rs : List PageRow) (rest : List ℕ) → length rs ≤ 50000 → Fits (begun opening) rs
      → reading opening (rows_shown 1 rs ++ rest) (length rs) ≡ record { left = rs; fault = None }
  rows_back rs rest few fits =
      let ls : List Line = numbered opening 1 rs in
      let fit = numbered_fit opening [] rs (omega arith) fits in
      let n : length ls ≡ length rs = sym (length-map ls (λ (l : Line). l.row)) ∙ ap length (numbered_rows opening 1 rs) in
      let front : take (36 * length rs) (rows_shown 1 rs ++ rest) ≡ flat_map (lines opening).show ls
      = take_at (rows_shown 1 rs) rest (36 * length rs) (rows_length rs few fits)
      ∙ sym (lines_shown opening [] ls fit ∙ ap (rows_shown 1) (numbered_rows opening 1 rs)) in
      sym (read_front (page_step opening) 36 (length rs) (rows_shown 1 rs ++ rest) 1 [])
      ∙ ap (λ b. read_rows (page_step opening) 36 (length rs) b 1 []) front
      ∙ ap (λ k. read_rows (page_step opening) 36 k (flat_map (lines opening).show ls) 1 []) (sym n)
      ∙ file_back (page_step opening) 36 (lines opening) 1 [] ls fit
      ∙ ap (λ x. record { left = x; fault = None }) (lines_put opening [] ls ∙ numbered_rows opening 1 rs)

  -- the rows before a fault
  pub rows_stop : (n : ℕ) (bytes : List ℕ) (rs : List PageRow) (f : Numbered RowFault)
      → reading opening bytes n ≡ record { left = rs; fault = Some f }
      → (f.number ≡ length rs + 1) × (take (36 * length rs) bytes ≡ rows_shown 1 rs) × Fits (begun opening) rs
  rows_stop n bytes rs f e =
      let s = file_stops (page_step opening) 36 (lines opening) n bytes 1 [] rs f e in
      let ls : List Line = s.items in
      let is : rs ≡ rows_of opening ls = s.left ∙ lines_put opening [] ls in
      let m : length rs ≡ length ls = ap length is ∙ length-map ls (λ (l : Line). l.row) in (
        s.number ∙ omega (arith, m),
        ap (λ k. take (36 * k) bytes) m ∙ s.shows ∙ lines_shown opening [] ls s.fits ∙ ap (rows_shown 1) (sym is),
        subst (Fits (begun opening)) (sym is) (lines_fit opening [] ls s.fits),
      )

-- the answer by what was read
module _ (quanta : ℕ → ℕ) (opening : ℕ) (bytes : List ℕ) (n : ℕ) where
  pub stop_answer : (rs : List PageRow) (o : Option (Numbered RowFault)) (e : FileFault) → Err e ≡ ending n o → Err e ≡ rows_ending quanta opening bytes n rs o
  stop_answer rs None e h = let z : ◌≡◌ {A = ℕ} 0 1 = cc in absurd (omega arith)
  stop_answer rs (Some f) e h = h

-- a reading is what it left and where it stopped
pub reading_is : (r : Reading (List PageRow)) → r.fault ≡ None → r ≡ record { left = r.left; fault = None }
reading_is r e = λ i. record { left = r.left; fault = e i }

-- the answer of a page whose rows were read
pub foot_answer : (quanta : ℕ → ℕ) (opening : ℕ) (bytes : List ℕ) (n m : ℕ) (rs : List PageRow) (o : Option (Numbered RowFault)) → o ≡ None → m ≡ n
    → foot_ending m (foot_read (foot_of quanta (tallied opening rs)) (drop (36 * n) bytes)) ≡ rows_ending quanta opening bytes n rs o
foot_answer quanta opening bytes n m rs o e k =
    ap (λ i. foot_ending i (foot_read (foot_of quanta (tallied opening rs)) (drop (36 * n) bytes))) k
    ∙ ap (rows_ending quanta opening bytes n rs) (sym e)

-- what reading the lines into a buffer leaves, in the words of the whole page
pub record PageRead (opening : ℕ) (bytes : List ℕ) (n : ℕ) (old : List PageRow) (name : ℕ) (r : Result ℕ FileFault) (out : MutBor (List PageRow)) : Type 0 where
  pub value : r ≡ ending n (reading opening bytes n).fault
  pub after : out.now ≡ over (reading opening bytes n).left old
  pub same : out.ghost_name ≡ name

-- `began` is the buffer, and `b` the tally, as the reading begins
pub page_read_is : (opening : ℕ) (bytes lines : List ℕ) (n : ℕ) (old : List PageRow) (began : MutBor (List PageRow)) (b : Tally) (r : Result ℕ FileFault) (out : MutBor (List PageRow)) (t : Tally)
    → lines ≡ take (36 * n) bytes → began.now ≡ old → b ≡ begun opening
    → ((s : Filled Reads PageRow) → Holds s s.kept.name began b.rows × (b ≡ tallied s.kept.opening s.front)
    → Rattle.text.specs.Files.RowsRead (fill row_after) 36 n lines s (λ s. Holds s s.kept.name out t.rows × (t ≡ tallied s.kept.opening s.front)) r)
    → PageRead opening bytes n old began.ghost_name r out
page_read_is opening bytes lines n old began b r out t front all none reads =
    let name : ℕ = began.ghost_name in
    let read = reads (record { kept = record { name = name; opening = opening }; front = []; rest = old }) ((all, refl, ap (λ (x : Tally). x.rows) none), none) in
    let f = buffer_read (record { name = name; opening = opening }) row_after (page_step opening) (page_takes name opening) (page_refuses name opening) 36 old n lines (λ (p : Reads). p.name) r out t.rows
    (λ s. t ≡ tallied s.kept.opening s.front) read in
    let is : read_rows (page_step opening) 36 n lines 1 [] ≡ reading opening bytes n
    = ap (λ x. read_rows (page_step opening) 36 n x 1 []) front ∙ read_front (page_step opening) 36 n bytes 1 [] in
    record {
      value = f.value ∙ ap (λ (x : Reading (List PageRow)). ending n x.fault) is;
      after = f.after ∙ ap (λ (x : Reading (List PageRow)). over x.left old) is;
      same = f.same;
    }

-- all rows were read
pub none_stopped : (n m : ℕ) (o : Option (Numbered RowFault)) → Ok m ≡ ending n o → o ≡ None
none_stopped n m None h = refl
none_stopped n m (Some f) h = let z : ◌≡◌ {A = ℕ} 0 1 = cc in absurd (omega arith)

-- the rows that a reading which was not stopped left stand at the front of the buffer
pub record RowsTaken (opening : ℕ) (bytes : List ℕ) (n : ℕ) (out : List PageRow) : Type 0 where
  pub none : (reading opening bytes n).fault ≡ None
  pub rows : RowsRead opening n bytes (reading opening bytes n).left
  pub front : take n out ≡ (reading opening bytes n).left

pub rows_taken : (opening : ℕ) (bytes : List ℕ) (n : ℕ) (old out : List PageRow) (m : ℕ) → 36 * n ≤ length bytes
    → Ok m ≡ ending n (reading opening bytes n).fault → out ≡ over (reading opening bytes n).left old → RowsTaken opening bytes n out
rows_taken opening bytes n old out m long ok after =
    let none = none_stopped n m (reading opening bytes n).fault ok in
    let rs : List PageRow = (reading opening bytes n).left in
    let rows = rows_only opening n bytes rs long (reading_is (reading opening bytes n) none) in
    record { none = none; rows = rows; front = ap (take n) after ∙ take_at rs (drop (length rs) old) n rows.count }
