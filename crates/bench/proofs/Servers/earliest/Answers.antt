use Rattle.std.proofs.Common.{◌≡◌, ◌<◌, length, arith, ap, ◌∙◌, subst}
use Rattle.bench.specs.Benches.{earliest}
use Rattle.bench.specs.Earliest.{Best, free_count, best_stays, best_moves, found_best}
use Rattle.bench.proofs.Servers.earliest.Goals as goal
use Rattle.bench.proofs.Servers.earliest.Goals.{then-tick-free, else-tick-free}

pub loop-server-preserved : goal.loop-server-preserved
loop-server-preserved c =
    let free = c.free-free.result.now in
    let n = c.loop-server.server in
    elim c.if-tick-free.branch [
      | then-tick-free w ↦ rw w.first-is (best_moves free n c.loop-server.first c.loop-server.invariant w.if-tick-free.true)
      | else-tick-free w ↦ rw w.first-is (best_stays free n c.loop-server.first c.loop-server.invariant w.if-tick-free.false)
    ]

pub returns : goal.returns
returns c =
    let s = c.args.self.now in
    let free = c.free-free.result.now in
    let long : length free ≡ s.number.count = ap length c.free-free.ensures ∙ free_count s (omega arith) in
    let some : 0 < length free = omega (arith, s.number.some) in
    let end : c.loop-server.server ≡ length free = omega arith in
    let best : Best free (length free) c.loop-server.first = subst (λ n. Best free n c.loop-server.first) end c.loop-server.invariant in
    record {
      value = found_best free c.loop-server.first some best ∙ ap earliest c.free-free.ensures;
      known = omega (arith, (best.first some).known);
    }
