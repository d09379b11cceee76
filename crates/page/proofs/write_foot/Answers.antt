use Rattle.std.proofs.Common.{ap, ◌∙◌}
use Rattle.rows.specs.Columns.{foot_row}
use Rattle.rows.specs.Rows.{row_shown}
use Rattle.page.proofs.Lines.{first_and_rest}
use Rattle.page.proofs.write_foot.Goals as goal

pub returns : goal.returns
returns c =
    first_and_rest c.args.line.now c.write.new.out _ 61 c.requires.room (c.in-Ok.ensures.after.0 ∙ ap (row_shown foot_row) c.numbers.ensures)
