-- Rows that were released from one tick to another. Nothing is assumed.
--   within      whether a row was released from t1 to t2
--   Lies        row n, counted from 1, is one of the rows and was released there
--   Lowest      the lowest such row; Highest, the highest
--   NoneLies    no row was released there
use Rattle.std.specs.Prelude.{◌≡◌, ℕ, ◌-◌, ◌≤◌, Bool, true, ◌&&◌, List, length, nat_le, slice_index_or}
use Rattle.tally.specs.declared.line.PageRow.{PageRow}

abbrev pub within : ℕ → ℕ → PageRow → Bool
within t1 t2 r = nat_le t1 r.release && nat_le r.release t2

-- what stands behind the rows; nobody asks for it
abbrev pub no_row : PageRow
no_row = record { asked = 0; «class» = 0; release = 0; misses = 0 }

pub record Lies (t1 t2 : ℕ) (rows : List PageRow) (n : ℕ) : Type 0 where
  pub some : 1 ≤ n
  pub there : n ≤ length rows
  pub released : within t1 t2 (slice_index_or rows (n - 1) no_row) ≡ true

pub record Lowest (t1 t2 : ℕ) (rows : List PageRow) (n : ℕ) : Type 0 where
  pub lies : Lies t1 t2 rows n
  pub lowest : (i : ℕ) → Lies t1 t2 rows i → n ≤ i

pub record Highest (t1 t2 : ℕ) (rows : List PageRow) (n : ℕ) : Type 0 where
  pub lies : Lies t1 t2 rows n
  pub highest : (i : ℕ) → Lies t1 t2 rows i → i ≤ n

abbrev pub NoneLies : ℕ → ℕ → List PageRow → Type 0
NoneLies t1 t2 rows = (n : ℕ) → Lies t1 t2 rows n → ⊥
