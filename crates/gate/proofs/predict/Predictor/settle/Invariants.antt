use Rattle.std.proofs.Common.{◌-◌}
use Rattle.promise.specs.Rules.{rules_of}
use Rattle.gate.proofs.Turns.{Onward}
use Rattle.gate.proofs.predict.Predictor.settle.Given as goal

abbrev pub invariant-loop-tick : goal.invariant-loop-tick
invariant-loop-tick g l = Onward (rules_of g.P.Pace g.R.Penalty l.self.pace.now l.self.penalty.now) l.initial.next l.misses l.next

abbrev pub decreases-loop-tick : goal.decreases-loop-tick
decreases-loop-tick g l = 1000000000 - l.next.base
