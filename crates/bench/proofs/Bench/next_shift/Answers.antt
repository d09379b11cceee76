use Rattle.std.proofs.Common.{rules, ◌≡◌, take, Err, ◌∙◌}
use Rattle.bench.specs.Benches.{free_of, first_shift, shifts, shifts_mark}
use Rattle.bench.specs.Shifts.{found_answer, found_none, next_is}
use Rattle.bench.proofs.Bench.next_shift.Goals as goal

pub returns-in_err-job : goal.returns-in_err-job
returns-in_err-job g c =
    let b = c.args.self.now in
    let held = g.J.Buffer.items b.jobs in
    let is : c.from_residual.result ≡ Err c.in_err-job.field-0.0 = search rules in
    let value : c.from_residual.result ≡ first_shift (shifts held b) (shifts_mark held b)
    = is ∙ found_none (take 50000 held) b.taken b.last (free_of b.servers) c.early.result c.early.ensures c.in_err-job.field-0.0 (search rules) in
    record { value = value; next = rw is tt }

pub returns : goal.returns
returns g c =
    let b = c.args.self.now in
    let held = g.J.Buffer.items b.jobs in
    let value : c.shift.result ≡ first_shift (shifts held b) (shifts_mark held b)
    = c.shift.ensures.value ∙ found_answer (take 50000 held) b.taken b.last (free_of b.servers) c.early.result c.early.ensures c.in_ok-job.job (search rules) in
    record { value = value; next = next_is held b c.shift.result c.shift.ensures.known value }
