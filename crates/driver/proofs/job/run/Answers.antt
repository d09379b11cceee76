use Rattle.std.proofs.Common.{◌≡◌, ◌-◌, take, ap, ◌∙◌, arith}
use Rattle.driver.specs.Jobs.{job_rules, job_view}
use Rattle.driver.proofs.Opened.{replays_same}
use Rattle.driver.proofs.job.run.Goals as goal

pub returns : goal.returns
returns c =
    let p = c.in_ok-count.ensures in
    let r = c.in_ok-replayed.ensures in
    let n : c.in_ok-count.count - 0 ≡ c.in_ok-count.count = omega arith in
    (p.0, replays_same _ _ _ _ r.0 _ _ _ (ap job_rules p.1) (ap (λ k. job_view (take k c.prepare.new.records)) n ∙ ap job_view p.3) r.1)
