use Rattle.std.proofs.Common.{◌≡◌, subst}
use Rattle.source.specs.Buckets.{raise}
use Rattle.source.specs.Raises.{next_multiple, raised_in_time, raised_late}
use Rattle.source.proofs.bucket.Width.raise.Goals as goal
use Rattle.source.proofs.bucket.Width.raise.Goals.{After-next_multiple_of-up}

raised : (c : After-next_multiple_of-up) → c.next_multiple_of-up.result ≡ raise c.args.self.now.value c.args.tick
raised c =
    let m = c.next_multiple_of-up in
    subst (λ w. m.result ≡ raise w c.args.tick) c.value.ensures.value
    (next_multiple c.value.result c.args.tick m.result c.value.ensures.low m.ensures.lower_bound m.ensures.upper_bound m.ensures.multiple)

pub returns-then-up-le-HORIZON-clause-value : goal.returns-then-up-le-HORIZON-clause-value
returns-then-up-le-HORIZON-clause-value c = raised_in_time c.args.self.now.value c.args.tick c.next_multiple_of-up.result (raised c.before) c.if-up-le-HORIZON.true

pub returns-else-up-le-HORIZON-clause-value : goal.returns-else-up-le-HORIZON-clause-value
returns-else-up-le-HORIZON-clause-value c = raised_late c.args.self.now.value c.args.tick c.next_multiple_of-up.result (raised c.before) c.if-up-le-HORIZON.false
