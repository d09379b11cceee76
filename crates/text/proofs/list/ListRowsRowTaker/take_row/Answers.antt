use Rattle.std.proofs.Common.{sym, ap, ◌∙◌}
use Rattle.text.specs.Files.{put_in}
use Rattle.text.specs.Lists.{reply_read}
use Rattle.text.proofs.Buffers.{with_item, item_placed, item_fits}
use Rattle.text.proofs.ListReading.{last_push}
use Rattle.text.proofs.list.ListRowsRowTaker.take_row.Goals as goal

pub returns : goal.returns
returns c =
    let list = c.args.self.now in
    let room = item_fits c.requires.0 _ list.out list.count c.requires.1.0 c.requires.2 in
    λ s st.
    let r = c.in_ok-reply.reply in
    let p = item_placed s _ r list.out list.count st.0 room.0 in
    let read = ap (λ last. reply_read last c.args.row.now) (sym st.1) ∙ (sym c.read_reply.ensures ∙ c.in_ok-reply.was) in
    (with_item s r, ap (put_in s) read, ((p.0, st.0.1, p.1), sym (last_push 0 s.front r)))
