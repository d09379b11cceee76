use Rattle.tally.proofs.Bounding.{bounds}
use Rattle.page.proofs.sheet.OpenPage.close.Goals as goal

pub returns-then-buf-at-clause-bound : goal.returns-then-buf-at-clause-bound
returns-then-buf-at-clause-bound g c =
    let a = c.args.self.account in
    bounds _ a.tally a.few a.since a.timely (g.met.P.Pace.lawful c.args.quanta.now).quantum_low
