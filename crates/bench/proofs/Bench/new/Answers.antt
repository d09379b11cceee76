use Rattle.std.proofs.Common.{◌≡◌, replicate, [], take, ap, ◌∙◌}
use Rattle.std.proofs.lemmas.List.{take-replicate, length-replicate}
use Rattle.bench.specs.Benches.{free_of}
use Rattle.bench.specs.Plans.{plan_kept, free_at_start}
use Rattle.bench.proofs.Bench.new.Goals as goal

pub returns-clause-planned : goal.returns-clause-planned
returns-clause-planned g c =
    let n = c.args.servers.count in
    let free : free_of c.new.result ≡ replicate n 0 = ap free_of c.new.ensures ∙ take-replicate n 4 0 c.args.servers.few in
    rw free (plan_kept n 0 (replicate n 0) [] (take 50000 (g.J.Buffer.items c.args.jobs)) (length-replicate n 0) c.args.servers.some (free_at_start n))
