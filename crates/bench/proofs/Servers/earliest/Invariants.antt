use Rattle.bench.specs.Earliest.{Best}
use Rattle.bench.proofs.Servers.earliest.Given as goal

abbrev pub invariant-loop-server : goal.invariant-loop-server
invariant-loop-server l = Best l.free l.server l.first
