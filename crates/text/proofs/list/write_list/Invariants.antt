use Rattle.text.proofs.ListWriting.{RowsWritten}
use Rattle.text.proofs.list.write_list.Given as goal

abbrev pub invariant-loop-i : goal.invariant-loop-i
invariant-loop-i l = RowsWritten l.records l.initial.out l.out l.i
