use Rattle.std.proofs.Common.{◌+◌, ◌*◌, ◌≤◌, length}
use Rattle.page_cases.proofs.pages.hand.Given as goal

abbrev pub invariant-loop-row : goal.invariant-loop-row
invariant-loop-row l = 36 * l.page.account.tally.rows + 36 ≤ length l.buf
