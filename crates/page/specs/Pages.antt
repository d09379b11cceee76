-- Pages: what a row and a foot look like, and what each call leaves. Nothing is assumed.
--   row_bytes   the bytes of a row; `foot_bytes`, those of the foot
--   lined       a buffer with one of its lines of 36 bytes replaced
--   RowLeaves   what a row leaves of the page and the buffer; `CloseLeaves`, what closing leaves
use Rattle.std.specs.Prelude.{◌≡◌, ℕ, ◌+◌, ◌*◌, ◌<◌, ◌≤◌, List, [], ◌∷◌, ◌++◌, length, take, drop, Ok, Err, Result}
use Rattle.rows.specs.Columns.{page_row, foot_row}
use Rattle.rows.specs.Rows.{row_shown}
use Rattle.tally.specs.declared.line.PageRow.{PageRow}
use Rattle.tally.specs.declared.line.Foot.{Foot}
use Rattle.tally.specs.declared.line.PageFault.{PageFault}
use Rattle.tally.specs.declared.line.PageFault.TheVariants.{Room}
use Rattle.tally.specs.declared.account.Tally.{Tally}
use Rattle.tally.specs.Tallies.{taken, foot_of}
use Rattle.page.specs.declared.sheet.OpenPage.{OpenPage}
use Rattle.page.specs.declared.sheet.ClosedPage.{ClosedPage}
use Rattle.page.specs.declared.RefusedPage.{RefusedPage}

abbrev pub row_bytes : ℕ → PageRow → List ℕ
row_bytes number r = row_shown page_row (number ∷ r.asked ∷ r.«class» ∷ r.release ∷ r.misses ∷ [])

-- "=" and the fields of the foot
abbrev pub foot_bytes : Foot → List ℕ
foot_bytes f = 61 ∷ row_shown foot_row (f.rows ∷ f.clock ∷ f.classes ∷ f.bits ∷ f.misses ∷ [])

-- the buffer with its line k replaced, the first being line 0
abbrev pub lined : ℕ → List ℕ → List ℕ → List ℕ
lined k line buf = take (36 * k) buf ++ (line ++ drop (36 * k + 36) buf)

abbrev pub RowLeaves : PageRow → Tally → Tally → List ℕ → List ℕ → Result (Unit {0}) PageFault → Type 0
RowLeaves r t t' buf buf' (Ok u) = (t' ≡ taken t r) × (buf' ≡ lined t.rows (row_bytes (t.rows + 1) r) buf)
RowLeaves r t t' buf buf' (Err f) = (t' ≡ t) × (buf' ≡ buf)

abbrev pub CloseLeaves : (ℕ → ℕ) → OpenPage → List ℕ → List ℕ → Result ClosedPage RefusedPage → Type 0
CloseLeaves quanta p buf buf' (Ok c) =
    (36 * p.account.tally.rows + 36 ≤ length buf) × (c.rows ≡ p.account.tally.rows)
    × (buf' ≡ lined p.account.tally.rows (foot_bytes (foot_of quanta p.account.tally)) buf)
CloseLeaves quanta p buf buf' (Err x) =
    (length buf < 36 * p.account.tally.rows + 36) × (x.fault ≡ Room) × (x.page ≡ p) × (buf' ≡ buf)
