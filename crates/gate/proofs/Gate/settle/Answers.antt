use Rattle.std.proofs.Common.{◌∙◌}
use Rattle.promise.specs.Rules.{Rules, Laws}
use Rattle.promise.specs.Predictions.{settle}
use Rattle.promise.specs.Views.{settled}
use Rattle.gate.specs.Gates.{rules_in}
use Rattle.gate.specs.Rows.{misses_at}
use Rattle.promise.proofs.Settling.{comes_settle}
use Rattle.gate.proofs.Rows.{all_misses_few, own_part, misses_at_is}
use Rattle.gate.proofs.Gate.settle.Goals as goal

pub settle-requires : goal.settle-requires
settle-requires g c = all_misses_few c.args.self.now.ledger

pub invariant_of-pending-clause-part : goal.invariant_of-pending-clause-part
invariant_of-pending-clause-part g c = own_part c.args.self.now.ledger c.args.reply.«class»

pub returns : goal.returns
unfolding settled
returns g c =
    let a = c.args.self.now in
    let l = a.ledger in
    let r = c.args.reply in
    let m : Rules = rules_in g.P.Pace g.R.Penalty a in
    let laws : Laws m = record { pace = g.met.P.Pace.lawful a.pace; penalty = g.met.R.Penalty.lawful a.penalty } in
    comes_settle m laws r.«class» c.requires.known r.ready c.base.result (misses_at l.rows r.«class») l.all_misses c.settle.result (own_part l r.«class») c.settle.ensures
    ∙ (λ i. settle 30 m r.«class» r.ready (c.base.ensures i) (misses_at_is l.rows r.«class» i) (l.summed i))
