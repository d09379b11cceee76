use Rattle.std.proofs.Common.{◌<◌, ◌≤◌, length}
use Rattle.rows.specs.Fields.{shown}
use Rattle.rows.proofs.Shows.{ShownFrom}
use Rattle.rows.proofs.field.write_field.Given as goal

abbrev pub invariant-loop-i : goal.invariant-loop-i
invariant-loop-i l = ShownFrom (shown (length l.initial.out) l.value) l.out l.i l.left × (l.i < length l.out) × (l.left ≤ l.value)
