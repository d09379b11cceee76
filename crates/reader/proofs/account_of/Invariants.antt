use Rattle.reader.proofs.Accounting.{Accounted}
use Rattle.reader.proofs.account_of.Given as goal

abbrev pub invariant-loop-row : goal.invariant-loop-row
invariant-loop-row l = Accounted l.initial.account.tally l.rows l.row-index l.account.tally
