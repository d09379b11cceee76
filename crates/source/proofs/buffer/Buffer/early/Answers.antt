use Rattle.std.proofs.Common.{◌∙◌}
use Rattle.source.specs.Places.{nth_take, nth_past_take}
use Rattle.source.proofs.buffer.Buffer.early.Goals as goal

pub returns-then-index-lt-MOST_RECORDS : goal.returns-then-index-lt-MOST_RECORDS
returns-then-index-lt-MOST_RECORDS g c = c.item.ensures ∙ nth_take (g.Self.Buffer.items c.args.self.now) 50000 c.args.index c.if-index-lt-MOST_RECORDS.true

pub returns-else-index-lt-MOST_RECORDS : goal.returns-else-index-lt-MOST_RECORDS
returns-else-index-lt-MOST_RECORDS g c = nth_past_take (g.Self.Buffer.items c.args.self.now) 50000 c.args.index c.if-index-lt-MOST_RECORDS.false
