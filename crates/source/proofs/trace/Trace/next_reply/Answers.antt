use Rattle.std.proofs.Common.{rules, ◌≡◌, take}
use Rattle.source.specs.declared.reply.End.TheVariants.{Dry}
use Rattle.source.specs.Replies.{first}
use Rattle.source.specs.Traces.{shown}
use Rattle.source.specs.Beginnings.{kept, head_kept, filter_keeps, next_of}
use Rattle.source.proofs.trace.Trace.next_reply.Goals as goal

pub returns : goal.returns
returns g c =
    let t = c.args.self.now in
    let held = g.R.Buffer.items t.records in
    let so : c.filter.result ≡ kept c.early.result t.last = filter_keeps t.last c.early.result c.filter.result _ (λ x b says. search rules) c.filter.ensures in
    let value : c.ok_or.result ≡ first (shown held t) Dry
    = head_kept (take 50000 held) t.taken t.last Dry c.early.result c.filter.result c.ok_or.result c.early.ensures so c.ok_or.ensures.value in
    record { value = value; next = next_of held t c.ok_or.result value }
