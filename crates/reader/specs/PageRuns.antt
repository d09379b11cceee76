-- Runs of a page's calls, and that what they leave reads back. Nothing is assumed.
--   Handed      a row that was handed to a page, with the answer, and what the page and its buffer were after it
--   Written     rows handed to a page one after another, where only its calls wrote its buffer
--   accepted    the rows that the page took
--   closed      the bytes of the page up to its length, once it is closed
--   ReadsBack   such bytes read as exactly the rows accepted
use Rattle.std.specs.Prelude.{◌≡◌, ℕ, ◌+◌, ◌*◌, ◌≤◌, List, [], ◌∷◌, length, take, Ok, Err, Result}
use Rattle.text.specs.declared.fault.FileFault.{FileFault}
use Rattle.tally.specs.declared.line.PageRow.{PageRow}
use Rattle.tally.specs.declared.line.PageFault.{PageFault}
use Rattle.tally.specs.declared.account.Tally.{Tally}
use Rattle.tally.specs.Tallies.{begun, row_answer, foot_of}
use Rattle.page.specs.Pages.{lined, foot_bytes, RowLeaves}

pub record Handed : Type 0 where
  pub row : PageRow
  pub answer : Result (Unit {0}) PageFault
  pub tally : Tally
  pub buf : List ℕ

abbrev pub Written : Tally → List ℕ → List Handed → Type 0
Written t buf [] = Unit {0}
Written t buf (h ∷ hs) =
    (h.answer ≡ row_answer t h.row (length buf)) × RowLeaves h.row t h.tally buf h.buf h.answer
    × Written h.tally h.buf hs

abbrev pub if_taken : Result (Unit {0}) PageFault → PageRow → List PageRow → List PageRow
if_taken (Ok u) r rs = r ∷ rs
if_taken (Err f) r rs = rs

abbrev pub accepted : List Handed → List PageRow
accepted [] = []
accepted (h ∷ hs) = if_taken h.answer h.row (accepted hs)

-- the tally and the buffer in the end
abbrev pub last_tally : Tally → List Handed → Tally
last_tally t [] = t
last_tally t (h ∷ hs) = last_tally h.tally hs

abbrev pub last_buf : List ℕ → List Handed → List ℕ
last_buf buf [] = buf
last_buf buf (h ∷ hs) = last_buf h.buf hs

abbrev pub closed : (ℕ → ℕ) → Tally → List ℕ → List ℕ
closed quanta t buf = take (36 * t.rows + 36) (lined t.rows (foot_bytes (foot_of quanta t)) buf)

-- Whatever rows were handed to a page begun at `opening` in a buffer with room for a foot, taken and refused ones in any
-- order: if `bytes` are what closing it leaves, they read as exactly the rows that were taken.
abbrev pub ReadsBack : (ℕ → ℕ) → ℕ → List ℕ → ℕ → List PageRow → Result ℕ FileFault → Type 0
ReadsBack quanta opening bytes room rs r =
    (buf : List ℕ) (hs : List Handed) → 36 ≤ length buf → Written (begun opening) buf hs
    → bytes ≡ closed quanta (last_tally (begun opening) hs) (last_buf buf hs) → length (accepted hs) ≤ room
    → (r ≡ Ok (length (accepted hs))) × (rs ≡ accepted hs)
