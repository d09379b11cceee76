use Rattle.std.proofs.Common.{◌≡◌, length, Ok, Err, sym, ap, ◌∙◌, subst, arith}
use Rattle.std.proofs.lemmas.Result.{err_from_is_err_and}
use Rattle.pace.specs.Steps.{ladders_of, no_steps}
use Rattle.text.specs.Schedules.{schedule_read}
use Rattle.driver.specs.declared.job.JobFault.TheVariants.{Pair}
use Rattle.driver.specs.Jobs.{Prepares}
use Rattle.driver.proofs.ListsRead.{mapped_ok, listed, front, pairs}
use Rattle.driver.proofs.job.prepare.Goals as goal

pub returns-in_err-pair : goal.returns-in_err-pair
returns-in_err-pair c =
    let room = length c.args.records.now in
    let scheduled : c.read_schedule.result ≡ Ok c.in_ok-map_err.field-0
    = mapped_ok c.read_schedule.result c.map_err.result c.in_ok-map_err.field-0 _ c.map_err.ensures.cases c.map_err.ensures.variant c.in_ok-map_err.was in
    let got : c.read_list.result ≡ Ok c.in_ok-count.count
    = mapped_ok c.read_list.result c.map_err-2.result c.in_ok-count.count _ c.map_err-2.ensures.cases c.map_err-2.ensures.variant c.in_ok-count.was in
    let l = listed c.args.list.now room c.in_ok-count.count (sym got ∙ c.read_list.ensures.value) in
    let f = front c.args.list.now room c.in_ok-count.count c.args.records.now c.read_list.new.out l c.read_list.ensures.after in
    let s : ladders_of c.read_schedule.new.steps ≡ schedule_read no_steps c.args.schedule.now
    = c.read_schedule.ensures.after ∙ ap (λ x. schedule_read x c.args.schedule.now) c.requires in
    let p = err_from_is_err_and c.from_residual-in_err-pair.result c.from_residual-in_err-pair.ensures.1 in
    let e : c.from_residual-in_err-pair.result ≡ Err (Pair c.in_err-pair.field-0.0) = p.1 ∙ ap Err p.2 in
    subst (Prepares c.args.schedule.now c.args.list.now room (ladders_of c.read_schedule.new.steps) c.read_list.new.out) (sym e) (
      (
        (_, sym c.read_schedule.ensures.value ∙ scheduled),
        (_, sym c.read_list.ensures.value ∙ got),
        sym (pairs c.args.list.now room c.in_ok-count.count (ladders_of c.read_schedule.new.steps) _ c.read_list.new.out l s f) ∙ sym c.in_err-pair.ensures,
      ),
      λ buf. tt,
    )

pub returns : goal.returns
returns c =
    let room = length c.args.records.now in
    let scheduled : c.read_schedule.result ≡ Ok c.in_ok-map_err.field-0
    = mapped_ok c.read_schedule.result c.map_err.result c.in_ok-map_err.field-0 _ c.map_err.ensures.cases c.map_err.ensures.variant c.in_ok-map_err.was in
    let got : c.read_list.result ≡ Ok c.in_ok-count.count
    = mapped_ok c.read_list.result c.map_err-2.result c.in_ok-count.count _ c.map_err-2.ensures.cases c.map_err-2.ensures.variant c.in_ok-count.was in
    let l = listed c.args.list.now room c.in_ok-count.count (sym got ∙ c.read_list.ensures.value) in
    let f = front c.args.list.now room c.in_ok-count.count c.args.records.now c.read_list.new.out l c.read_list.ensures.after in
    let s : ladders_of c.read_schedule.new.steps ≡ schedule_read no_steps c.args.schedule.now
    = c.read_schedule.ensures.after ∙ ap (λ x. schedule_read x c.args.schedule.now) c.requires in (
      record {
        rows = _;
        scheduled = sym c.read_schedule.ensures.value ∙ scheduled;
        count = c.in_ok-count.count;
        listed = sym c.read_list.ensures.value ∙ got;
        paired = sym (pairs c.args.list.now room c.in_ok-count.count (ladders_of c.read_schedule.new.steps) _ c.read_list.new.out l s f) ∙ sym c.in_ok-pair.ensures;
      },
      s,
      omega (arith, l.held, c.read_list.auto.out),
      f,
    )
