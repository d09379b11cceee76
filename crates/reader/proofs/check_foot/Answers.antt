use Rattle.std.proofs.Common.{length, Err, sym, ap, ◌∙◌}
use Rattle.std.proofs.lemmas.Result.{err_from_is_err_and}
use Rattle.rows.proofs.Layers.{numbered_ok, numbered_err}
use Rattle.text.specs.declared.fault.FileFault.TheVariants.{Row}
use Rattle.tally.specs.Tallies.{foot_of}
use Rattle.reader.specs.PageFiles.{foot_read, foot_ending}
use Rattle.reader.proofs.check_foot.Goals as goal

pub returns-in_err-at_number : goal.returns-in_err-at_number
returns-in_err-at_number g c =
    let p = err_from_is_err_and c.from_residual.result c.from_residual.ensures.1 in
    let q = numbered_err _ c.read_foot.result c.in_err-at_number.field-0.0 c.in_err-at_number.ensures in
    let quanta = g.P.Pace.quanta c.args.quanta.now in
    let is = c.foot-foot.ensures.value ∙ ap (foot_of quanta) c.account_of.ensures in
    p.1 ∙ (ap Err p.2 ∙ (ap (λ f. Err (Row f)) q.2
    ∙ (ap (foot_ending (length c.args.rows.now)) (sym q.1 ∙ c.read_foot.ensures ∙ ap (λ f. foot_read f c.args.line.now) is))))

pub returns : goal.returns
returns g c =
    let q = numbered_ok _ c.read_foot.result _ c.in_ok-at_number.ensures in
    let quanta = g.P.Pace.quanta c.args.quanta.now in
    let is = c.foot-foot.ensures.value ∙ ap (foot_of quanta) c.account_of.ensures in
    ap (foot_ending (length c.args.rows.now)) (sym q ∙ c.read_foot.ensures ∙ ap (λ f. foot_read f c.args.line.now) is)
