use Rattle.std.proofs.Common.{sym, ap, ◌∙◌, arith}
use Rattle.text.specs.Files.{put_in}
use Rattle.text.proofs.Buffers.{with_item, item_placed, item_fits}
use Rattle.tally.specs.declared.account.Tally.{Tally}
use Rattle.tally.specs.Tallies.{begun, taken}
use Rattle.reader.specs.PageFiles.{line_read}
use Rattle.reader.proofs.Turns.{line_only, takes_not_refused}
use Rattle.reader.proofs.PageReading.{counted_push}
use Rattle.reader.proofs.PageLinesRowTaker.take_row.Goals as goal

pub unreachable-requires : goal.unreachable-requires
unreachable-requires c =
    let page = c.args.self.now in
    let t : Tally = page.account.tally in
    let takes = (line_only t c.args.line.now c.in_ok-row.row (sym c.read_line.ensures ∙ c.in_ok-row.was)).1 in
    let room = item_fits c.requires.0 _ page.out t.rows c.requires.1.0 c.requires.2 in
    takes_not_refused t _ _ _ takes (omega (arith, room.1, c.requires.1.0.2)) (omega (arith, room.1, c.requires.1.0.2)) c.in_default.ensures

pub returns : goal.returns
returns c =
    let page = c.args.self.now in
    let t : Tally = page.account.tally in
    let r = c.in_ok-row.row in
    let room = item_fits c.requires.0 _ page.out t.rows c.requires.1.0 c.requires.2 in
    λ s st.
    let p = item_placed s _ r page.out t.rows st.0 room.0 in
    let read = ap (λ x. line_read x c.args.line.now) (sym st.1) ∙ (sym c.read_line.ensures ∙ c.in_ok-row.was) in
    let rows = ap (λ (x : Tally). x.rows) c.in-Ok.ensures.1 in
    let tally = c.in-Ok.ensures.1 ∙ ap (λ x. taken x r) st.1 ∙ sym (counted_push (begun s.kept.opening) s.front r) in
    (with_item s r, ap (put_in s) read, ((p.0, st.0.1, rows ∙ p.1), tally))
