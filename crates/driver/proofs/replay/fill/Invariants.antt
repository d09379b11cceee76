use Rattle.std.proofs.Common.{◌≡◌, ◌-◌}
use Rattle.gate.specs.Gates.{view_of, rules_in}
use Rattle.driver.proofs.Driving.{Driven}
use Rattle.driver.proofs.replay.fill.Given as goal

abbrev pub invariant-loop-gate : goal.invariant-loop-gate
invariant-loop-gate g l =
    (rules_in g.P.Pace g.R.Penalty l.gate ≡ rules_in g.P.Pace g.R.Penalty l.initial.gate)
    × Driven (rules_in g.P.Pace g.R.Penalty l.initial.gate) (view_of g.S.Source l.initial.gate) (view_of g.S.Source l.gate)
    l.initial.page.account.tally l.page.account.tally l.initial.buf l.buf

abbrev pub decreases-loop-gate : goal.decreases-loop-gate
decreases-loop-gate g l = 50000 - l.page.account.tally.rows
