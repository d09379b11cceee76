use Rattle.std.proofs.Common.{arith}
use Rattle.std.proofs.lemmas.Nat.{leading_length}
use Rattle.tally.specs.Bits.{Enough}
use Rattle.tally.proofs.Searches.{enough_length, enough_is}
use Rattle.tally.proofs.leak.row_bits.Goals as goal

pub returns : goal.returns
returns c =
    let l = leading_length 32 c.args.rows (omega arith) in
    let enough : Enough c.args.rows l.0 = enough_length _ _ l.2 l.3 in
    record { value = omega (arith, l.1, enough_is _ _ c.requires enough); few = omega (arith, l.1, enough.least 16 (omega arith)) }
