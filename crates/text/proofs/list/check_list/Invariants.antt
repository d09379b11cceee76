use Rattle.std.proofs.Common.{◌≡◌, ◌+◌, drop}
use Rattle.text.specs.ListWriting.{unlawful}
use Rattle.text.proofs.list.check_list.Given as goal

abbrev pub invariant-loop-i : goal.invariant-loop-i
invariant-loop-i l = unlawful (l.i + 1) l.last (drop l.i l.records) ≡ unlawful 1 0 l.records
