use Rattle.std.proofs.Common.{sym}
use Rattle.rows.specs.Columns.{shapes}
use Rattle.rows.proofs.Fitting.{sound}
use Rattle.rows.proofs.RowLaws.{written}
use Rattle.rows.proofs.layout.Layout.write.Goals as goal

pub returns-clause-after : goal.returns-clause-after
returns-clause-after g c =
    let t = c.args.self.now in
    written (shapes t.columns) c.args.values.now c.write_fields.new.out (sound t.columns) (sym c.if-not-fits.ensures) c.write_fields.ensures
