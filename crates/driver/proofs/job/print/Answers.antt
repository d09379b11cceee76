use Rattle.std.proofs.Common.{◌∙◌}
use Rattle.pace.specs.Steps.{ladders_of}
use Rattle.driver.specs.Jobs.{job_rules, job_view}
use Rattle.driver.proofs.Opened.{checked_same, trace_view, opened_view, opened_rules, leaves_same}
use Rattle.driver.proofs.job.print.Goals as goal

pub returns : goal.returns
returns c =
    leaves_same (job_rules (ladders_of c.open-gate.result.pace)) (job_rules (ladders_of c.args.steps)) (trace_view c.open-gate.result) (job_view c.args.replies.now)
    (trace_view c.replay.new.gate) c.args.out.now c.replay.new.buf c.replay.result
    (opened_rules c.open-gate.result.pace c.args.steps c.open-gate.ensures.pace)
    (c.open-gate.ensures.view ∙ opened_view c.new-2.result c.args.replies c.in-Ok.opening.value c.new-2.ensures.value (checked_same 0 1000000000 0 c.in-Ok.opening.value c.in-Ok.ensures))
    c.replay.ensures.value
