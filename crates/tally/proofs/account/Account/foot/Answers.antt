use Rattle.tally.proofs.Bounding.{bounds}
use Rattle.tally.proofs.account.Account.foot.Goals as goal

pub returns-clause-bound : goal.returns-clause-bound
returns-clause-bound g c =
    let a = c.args.self.now in
    let quanta = g.P.Pace.quanta c.args.quanta.now in
    rw (c.row_bits.ensures.value, c.exponent.ensures.value)
    (bounds quanta a.tally a.few a.since a.timely (g.met.P.Pace.lawful c.args.quanta.now).quantum_low)
