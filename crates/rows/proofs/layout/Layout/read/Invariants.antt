use Rattle.std.proofs.Common.{◌≡◌, ◌+◌, length, take, drop}
use Rattle.rows.specs.Columns.{shapes}
use Rattle.rows.specs.Rows.{before, row_read}
use Rattle.rows.proofs.layout.Layout.read.Given as goal

-- the bytes that are left, read by the columns that are left, give what the whole row gives
abbrev pub invariant-loop-i : goal.invariant-loop-i
invariant-loop-i g l = record {
  left : before (take l.i l.values) (row_read (l.self.first + l.i) (shapes (drop l.i l.self.columns)) l.rest) ≡ row_read l.self.first (shapes l.self.columns) l.row;
  room : length l.values ≡ length l.self.columns;
}
