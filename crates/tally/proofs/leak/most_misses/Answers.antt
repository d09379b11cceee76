use Rattle.std.proofs.Common.{arith}
use Rattle.std.proofs.Math.Nat.{div-le_self}
use Rattle.promise.proofs.Settling.{few}
use Rattle.tally.proofs.Searches.{most_by_power}
use Rattle.tally.proofs.leak.most_misses.Goals as goal

pub returns : goal.returns
returns c =
    record {
      most = most_by_power _ _ _ c.requires.some c.ilog2.ensures.power_le c.ilog2.ensures.next_power_gt;
      few = few c.ilog2.result c.args.span (omega (arith, c.ilog2.ensures.power_le, div-le_self c.args.span c.args.quantum)) c.requires.within;
    }
