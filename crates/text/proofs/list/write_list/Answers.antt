use Rattle.std.proofs.Common.{◌*◌, ◌∙◌, arith}
use Rattle.rows.proofs.RowWriting.{part_length}
use Rattle.text.proofs.ListChecking.{checked, each}
use Rattle.text.proofs.ListWriting.{rows_more, rows_back}
use Rattle.text.proofs.list.write_list.Goals as goal

pub write_reply-requires : goal.write_reply-requires
write_reply-requires c =
    let k = checked c.args.records.now _ c.in_ok-check_list.ensures in
    let r = each c.args.records.now 1 0 c.loop-i.i k.1 c.loop-i-test.true in
    record { room = part_length c.loop-i.out (35 * c.loop-i.i) 35 (omega arith); asked = r.0; kind = r.1; ready = r.2 }

pub loop-i-preserved : goal.loop-i-preserved
loop-i-preserved c =
    rows_more c.args.records.now c.args.out.now c.loop-i.out c.write_reply.new.row c.loop-i.i c.loop-i-test.true
    (c.write_reply.auto.row ∙ part_length c.loop-i.out (35 * c.loop-i.i) 35 (omega arith)) c.write_reply.ensures.after c.write_reply.ensures.within c.loop-i.invariant

pub returns-clause-back : goal.returns-clause-back
returns-clause-back c = rows_back c.args.records.now c.args.out.now c.loop-i.out c.loop-i.i (omega arith) c.loop-i.invariant _ c.in_ok-check_list.ensures
