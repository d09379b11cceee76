use Rattle.std.proofs.Common.{◌∙◌}
use Rattle.pace.specs.Doublings.{doubled_none, doubled_more, doubled_past}
use Rattle.pace.proofs.doubled.doubled.Goals as goal

pub loop-init : goal.loop-init
loop-init c = c.min-long.ensures ∙ doubled_none c.args.wait

pub loop-preserved : goal.loop-preserved
loop-preserved c = doubled_more c.args.wait c.loop.counter c.loop.long c.loop.invariant c.if-long.false

pub returns-then-long : goal.returns-then-long
returns-then-long c = doubled_past c.args.wait c.loop.counter c.args.times c.loop.long c.loop.invariant c.loop-test.true c.if-long.true
