use Rattle.std.proofs.Common.{ap, ◌∙◌, arith}
use Rattle.tally.specs.declared.account.Tally.{Tally}
use Rattle.tally.specs.Tallies.{counted}
use Rattle.reader.proofs.Turns.{takes_not_refused}
use Rattle.reader.proofs.Accounting.{accounted_takes, accounted_more, accounted_all}
use Rattle.reader.proofs.account_of.Goals as goal

pub unreachable-requires : goal.unreachable-requires
unreachable-requires c =
    let start = c.new-account.result.tally in
    let a = c.loop-row.invariant in
    let takes = accounted_takes start c.args.rows.now c.loop-row.row-index c.loop-row.account.tally a _ c.loop-row-test.true in
    let none = ap (λ (t : Tally). t.rows) c.new-account.ensures in
    takes_not_refused c.loop-row.account.tally _ _ _ takes (omega (arith, a.count, none, c.requires.few)) (omega (arith, a.count, none)) c.in_default.ensures

pub loop-row-preserved : goal.loop-row-preserved
loop-row-preserved c =
    accounted_more c.new-account.result.tally c.args.rows.now c.loop-row.row-index c.loop-row.account.tally c.loop-row.invariant _ c.loop-row-test.true
    c.in-Ok.next.tally c.in-Ok.ensures.1

pub returns : goal.returns
returns c =
    accounted_all c.new-account.result.tally c.args.rows.now c.loop-row.row-index c.loop-row.account.tally c.loop-row.invariant (omega arith)
    ∙ ap (λ t. counted t c.args.rows.now) c.new-account.ensures
