use Rattle.std.proofs.Common.{◌≡◌, Ok, Err, arith}
use Rattle.std.proofs.lemmas.Grind.{common_steps}
use Rattle.rows.specs.declared.fault.RowFault.TheVariants.{Newline}
use Rattle.rows.specs.Columns.{shapes}
use Rattle.rows.specs.Rows.{row_read}
use Rattle.rows.proofs.Fitting.{sound}
use Rattle.rows.proofs.RowLaws.{row_exact, row_refused}
use Rattle.rows.proofs.layout.Layout.read.Goals as goal

pub returns-in_err-values : goal.returns-in_err-values
returns-in_err-values g c =
    let t = c.args.self.now in
    let r : c.from_residual.result ≡ row_read t.first (shapes t.columns) c.args.row.now = grind (arith, common_steps) in
    record { value = r; exact = row_exact _ _ _ _ (sound t.columns) r; refused = row_refused _ _ _ _ (sound t.columns) r }

pub returns-in-10 : goal.returns-in-10
returns-in-10 g c =
    let t = c.args.self.now in
    let r : Ok c.loop-i.values ≡ row_read t.first (shapes t.columns) c.args.row.now = grind (arith, common_steps) in
    record { value = r; exact = row_exact _ _ _ _ (sound t.columns) r; refused = row_refused _ _ _ _ (sound t.columns) r }

pub returns-in_default : goal.returns-in_default
returns-in_default g c =
    let t = c.args.self.now in
    let r : Err Newline ≡ row_read t.first (shapes t.columns) c.args.row.now = grind (arith, common_steps) in
    record { value = r; exact = row_exact _ _ _ _ (sound t.columns) r; refused = row_refused _ _ _ _ (sound t.columns) r }
