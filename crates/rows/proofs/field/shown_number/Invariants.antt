use Rattle.rows.proofs.Scans.{ReadTo}
use Rattle.rows.proofs.field.shown_number.Given as goal

abbrev pub invariant-loop-b : goal.invariant-loop-b
invariant-loop-b l = ReadTo l.bytes l.b-index l.value
