use Rattle.std.proofs.Common.{ap, ◌∙◌}
use Rattle.promise.specs.Rules.{Rules}
use Rattle.gate.specs.Gates.{view_of, rules_in}
use Rattle.tally.specs.Tallies.{begun}
use Rattle.driver.proofs.Driving.{replays}
use Rattle.driver.proofs.Opened.{checked_same}
use Rattle.driver.proofs.replay.replay.Goals as goal

pub returns : goal.returns
returns g c =
    let m = rules_in g.P.Pace g.R.Penalty c.args.gate.now in
    let v = view_of g.S.Source c.args.gate.now in
    let closed = c.in-Ok-close.ensures.after in
    record {
      value =
          replays m v _ c.in_ok-page.page.account.tally c.fill-end.new.page.account.tally c.args.buf.now c.fill-end.new.buf c.close.new.buf
          (g.P.Pace.quanta c.pace.result.now) c.in-Ok-close.closed.rows c.length.result c.fill-end.result
          (c.in_ok-page.ensures.1 ∙ ap begun (checked_same 0 1000000000 c.clock.result c.in-Ok.opening.value c.in-Ok.ensures ∙ c.clock.ensures.call.0))
          c.fill-end.ensures.fills
          (ap g.P.Pace.quanta c.pace.ensures ∙ ap (λ (r : Rules). r.quantum) c.fill-end.ensures.same)
          closed.0 closed.1 closed.2 c.fill-end.auto.buf c.length.ensures;
      same = c.fill-end.ensures.same;
    }
