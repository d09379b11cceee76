use Rattle.std.proofs.Common.{◌≡◌}
use Rattle.gate.specs.Gates.{view_of, rules_in}
use Rattle.play.proofs.Playing.{Playing}
use Rattle.play.proofs.play.Given as goal

abbrev pub invariant-loop-i : goal.invariant-loop-i
invariant-loop-i g l =
    (rules_in g.P.Pace g.R.Penalty l.gate ≡ rules_in g.P.Pace g.R.Penalty l.initial.gate)
    × Playing (rules_in g.P.Pace g.R.Penalty l.initial.gate) (view_of g.S.Source l.initial.gate) (view_of g.S.Source l.gate)
    l.requests l.initial.events l.events l.i
