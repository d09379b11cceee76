use Rattle.std.proofs.Common.{[], sym, refl, ap, ◌∙◌, arith, rules}
use Rattle.tally.specs.declared.account.Tally.{Tally}
use Rattle.reader.proofs.WholePages.{page_read_is}
use Rattle.reader.proofs.read_lines.Goals as goal

pub read_rows-requires-clause-room : goal.read_rows-requires-clause-room
read_rows-requires-clause-room c =
    let page = c.new-page.ensures in (
      record { kept = record { name = c.new-page.result.out.ghost_name; opening = c.args.opening.value }; front = []; rest = c.args.out.now },
      ((page.value, refl, ap (λ (t : Tally). t.rows) page.begun), page.begun),
      omega (arith, c.requires),
    )

pub returns : goal.returns
returns c =
    let page = c.new-page.ensures in
    let left = c.read_rows.new.taker in
    let read = page_read_is c.args.opening.value c.args.bytes.now _ c.args.rows c.args.out.now c.new-page.result.out c.new-page.result.account.tally c.read_rows.result left.out left.account.tally
    refl page.value page.begun c.read_rows.ensures in
    let value = read.value in
    let after = read.after in
    let same = sym page.same ∙ sym read.same in
    record { value = value; after = search rules }
