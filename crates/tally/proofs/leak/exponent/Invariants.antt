use Rattle.std.proofs.Common.{◌≡◌, ◌+◌, ◌*◌, ◌≤◌}
use Rattle.promise.specs.Leaks.{over, most_of}
use Rattle.tally.specs.Bits.{occurs_in}
use Rattle.tally.proofs.leak.exponent.Given as goal

abbrev pub invariant-loop-class : goal.invariant-loop-class
invariant-loop-class g l =
    (l.e ≡ 1 + over l.«class» (λ c. most_of (g.P.Pace.quanta l.quanta c) l.span) (occurs_in l.occurs)) × (l.e ≤ 1 + 29 * l.«class»)
