use Rattle.rows.specs.Columns.{shapes}
use Rattle.rows.specs.Rows.{row_shown}
use Rattle.rows.proofs.RowWriting.{RowLeft}
use Rattle.rows.proofs.layout.Layout.write_fields.Given as goal

abbrev pub invariant-loop-column : goal.invariant-loop-column
invariant-loop-column g l = RowLeft l.column-iterator.a.rest.now l.column-iterator.b.rest.now (row_shown (shapes l.self.columns) l.values) l.out l.at
