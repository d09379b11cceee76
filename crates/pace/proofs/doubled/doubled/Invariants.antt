use Rattle.std.proofs.Common.{◌≡◌}
use Rattle.pace.specs.Steps.{doubled}
use Rattle.pace.proofs.doubled.doubled.Given as goal

abbrev pub invariant-loop : goal.invariant-loop
invariant-loop l = l.long ≡ doubled l.wait l.counter
