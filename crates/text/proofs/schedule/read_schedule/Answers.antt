use Rattle.std.proofs.Common.{sym, ◌∙◌, subst}
use Rattle.pace.specs.Steps.{ladders_of, no_steps}
use Rattle.text.specs.Schedules.{schedule_step, ScheduleExact}
use Rattle.text.proofs.FileReading.{file_answer_is, file_left, rows_not_size}
use Rattle.text.proofs.ScheduleFiles.{schedule_exact}
use Rattle.text.proofs.schedule.read_schedule.Goals as goal

pub returns : goal.returns
returns c =
    let size = c.in_ok-rows.ensures.value in
    let old = ladders_of c.args.steps.now in
    let read = c.read_rows.ensures no_steps c.new.ensures in
    let value = read.0 ∙ file_answer_is schedule_step 17 no_steps c.args.bytes.now c.in_ok-rows.rows 128 old size in
    let after = read.1 ∙ file_left schedule_step 17 no_steps c.args.bytes.now c.in_ok-rows.rows 128 old size in
    record {
      value = value;
      after = after;
      exact = subst (λ t. ScheduleExact c.args.bytes.now t c.read_rows.result) (sym after) (schedule_exact c.args.bytes.now old c.read_rows.result value);
      same = λ e. absurd (rows_not_size _ _ _ read.0 e);
    }
