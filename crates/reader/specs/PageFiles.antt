-- Page files: rows that count from 1, and a foot. Nothing is assumed.
--   rows_shown    the rows of a page, one after another; `page_shown`, with the foot that they and the quanta give
--   Fits          each row is in its turn one that a page takes: class at most 7, and the order and range
--   row_of        the row of a line's numbers
--   line_read     the row of a line, or the line's fault; its number, order and range are judged last
--   row_after     the same, of a line that comes after rows; `page_step` adds it to them
--   foot_read     whether a line is a given foot, or its fault; the "=" is its field 1
--   page_count    how many rows a page has besides its foot; the size is judged before any row
--   page_answer   the number of rows of a page, or its first fault
--   page_read     the rows of a page, up to the first fault
--   PageExact     what makes an answer right, in terms of what is shown
use Rattle.std.specs.Prelude.{◌≡◌, ℕ, ◌+◌, ◌-◌, ◌*◌, ◌≤◌, min, Bool, true, false, ◌&&◌, List, [], ◌∷◌, ◌++◌, length, take, drop, Some, None, Ok, Err, Option, Result, ◌==◌, ◌≢◌, nat_le, nat_lt, slice_index}
use Rattle.rows.specs.declared.field.FieldFault.TheVariants.{Form}
use Rattle.rows.specs.declared.fault.Numbered.{Numbered}
use Rattle.rows.specs.declared.fault.RowFault.{RowFault}
use Rattle.rows.specs.declared.fault.RowFault.TheVariants.{Field, Order}
use Rattle.rows.specs.Columns.{page_row, foot_row}
use Rattle.rows.specs.Rows.{row_read}
use Rattle.text.specs.declared.fault.FileFault.{FileFault}
use Rattle.text.specs.declared.fault.FileFault.TheVariants.{Row, Size}
use Rattle.text.specs.Files.{Reading, row_count, read_rows}
use Rattle.tally.specs.declared.line.PageRow.{PageRow}
use Rattle.tally.specs.declared.line.Foot.{Foot}
use Rattle.tally.specs.declared.account.Tally.{Tally}
use Rattle.tally.specs.Tallies.{begun, taken, tallied, orderly, foot_of}
use Rattle.page.specs.Pages.{row_bytes, foot_bytes}

abbrev pub rows_shown : ℕ → List PageRow → List ℕ
rows_shown k [] = []
rows_shown k (r ∷ rs) = row_bytes k r ++ rows_shown (k + 1) rs

abbrev pub page_shown : (ℕ → ℕ) → ℕ → List PageRow → List ℕ
page_shown quanta opening rs = rows_shown 1 rs ++ foot_bytes (foot_of quanta (tallied opening rs))

abbrev pub Fits : Tally → List PageRow → Type 0
Fits t [] = Unit {0}
Fits t (r ∷ rs) = (r.«class» ≤ 7) × (orderly t r ≡ true) × Fits (taken t r) rs

abbrev pub row_of : List ℕ → PageRow
row_of vs = record { asked = slice_index vs 1; «class» = slice_index vs 2; release = slice_index vs 3; misses = slice_index vs 4 }

-- the row of some numbers, as the next one of a tally
abbrev pub in_turn : Tally → List ℕ → Result PageRow RowFault
in_turn t vs = elim (slice_index vs 0 == t.rows + 1 && orderly t (row_of vs)) [ true ↦ Ok (row_of vs) | false ↦ Err Order ]

abbrev pub turn_from : Tally → Result (List ℕ) RowFault → Result PageRow RowFault
turn_from t (Ok vs) = in_turn t vs
turn_from t (Err f) = Err f

abbrev pub line_read : Tally → List ℕ → Result PageRow RowFault
line_read t line = turn_from t (row_read 1 page_row line)

-- what stays the same while a page is read: the name under which its buffer is lent, and its opening
pub record Reads : Type 0 where
  pub name : ℕ
  pub opening : ℕ

-- the row of a line after rows
abbrev pub row_after : Reads → List PageRow → List ℕ → Result PageRow RowFault
row_after page rs line = line_read (tallied page.opening rs) line

abbrev pub onto : List PageRow → Result PageRow RowFault → Result (List PageRow) RowFault
onto rs (Ok r) = Ok (rs ++ r ∷ [])
onto rs (Err f) = Err f

-- a line adds its row to those read before it
abbrev pub page_step : ℕ → List PageRow → List ℕ → Result (List PageRow) RowFault
page_step opening rs line = onto rs (line_read (tallied opening rs) line)

abbrev pub same_foot : Foot → List ℕ → Bool
same_foot f vs =
    (slice_index vs 0 == f.rows) && (slice_index vs 1 == f.clock && (slice_index vs 2 == f.classes
    && (slice_index vs 3 == f.bits && slice_index vs 4 == f.misses)))

abbrev pub foot_from : Foot → Result (List ℕ) RowFault → Result (Unit {0}) RowFault
foot_from f (Ok vs) = elim (same_foot f vs) [ true ↦ Ok tt | false ↦ Err Order ]
foot_from f (Err e) = Err e

abbrev pub foot_read : Foot → List ℕ → Result (Unit {0}) RowFault
foot_read f line =
    elim (nat_lt 0 (length line) && slice_index line 0 == 61) [
      | true ↦ foot_from f (row_read 2 foot_row (drop 1 line))
      | false ↦ Err (Field (record { number = 1; fault = Form }))
    ]

-- `room` is how many rows the buffer holds
abbrev pub page_count : ℕ → ℕ → Result ℕ FileFault
page_count room size = elim (nat_le 36 size) [ true ↦ row_count 36 (min 50000 room) (size - 36) | false ↦ Err Size ]

-- the answer of a page of n rows by its foot
abbrev pub foot_ending : ℕ → Result (Unit {0}) RowFault → Result ℕ FileFault
foot_ending n (Ok u) = Ok n
foot_ending n (Err f) = Err (Row (record { number = n + 1; fault = f }))

-- what reading n rows leaves
abbrev pub reading : ℕ → List ℕ → ℕ → Reading (List PageRow)
reading opening bytes n = read_rows (page_step opening) 36 n bytes 1 []

module _ (quanta : ℕ → ℕ) (opening : ℕ) (bytes : List ℕ) where
  -- the rows are read; if none was refused, the foot is
  abbrev pub rows_ending : ℕ → List PageRow → Option (Numbered RowFault) → Result ℕ FileFault
  rows_ending n rs None = foot_ending n (foot_read (foot_of quanta (tallied opening rs)) (drop (36 * n) bytes))
  rows_ending n rs (Some f) = Err (Row f)

  abbrev pub answer_of : Result ℕ FileFault → Result ℕ FileFault
  answer_of (Ok n) = rows_ending n (reading opening bytes n).left (reading opening bytes n).fault
  answer_of (Err f) = Err f

  abbrev pub page_answer : ℕ → Result ℕ FileFault
  page_answer room = answer_of (page_count room (length bytes))

abbrev pub read_of : ℕ → List ℕ → Result ℕ FileFault → List PageRow
read_of opening bytes (Ok n) = (reading opening bytes n).left
read_of opening bytes (Err f) = []

abbrev pub page_read : ℕ → List ℕ → ℕ → List PageRow
page_read opening bytes room = read_of opening bytes (page_count room (length bytes))

-- What makes an answer right, with the rows that were read: the bytes are the page of rows that fit; or no page of a size
-- that can be held has so many bytes; or the first rows are rows that fit, and the next line is the faulty one.
abbrev pub PageExact : (ℕ → ℕ) → ℕ → List ℕ → ℕ → List PageRow → Result ℕ FileFault → Type 0
PageExact quanta opening bytes room rs (Ok n) =
    (length rs ≡ n) × (bytes ≡ page_shown quanta opening rs) × Fits (begun opening) rs
PageExact quanta opening bytes room rs (Err Size) = (n : ℕ) → n ≤ 50000 → n ≤ room → length bytes ≢ 36 * n + 36
PageExact quanta opening bytes room rs (Err (Row f)) =
    (f.number ≡ length rs + 1) × (take (36 * length rs) bytes ≡ rows_shown 1 rs) × Fits (begun opening) rs
