use Rattle.std.proofs.Common.{◌≡◌, ◌+◌, ◌*◌, length}
use Rattle.text.proofs.FileReading.{Reached}
use Rattle.text.proofs.file.read_rows.Given as goal

abbrev pub invariant-loop-i : goal.invariant-loop-i
invariant-loop-i g l = record {
  size : l.i-iterator.iter.size ≡ l.width;
  left : l.width * l.i-iterator.count + length l.i-iterator.iter.rest.now ≡ length l.bytes;
  reached : (s : g.T.RowTaker.State) → g.T.RowTaker.stands s l.initial.taker
      → Reached g.T.RowTaker.step g.T.RowTaker.room g.T.RowTaker.stands l.width l.fn.rows l.bytes s l.i-iterator.count l.i-iterator.iter.rest.now l.taker;
}
