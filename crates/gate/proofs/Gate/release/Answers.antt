use Rattle.std.proofs.Common.{◌≡◌, suc, Ok, sum, ap, ◌∙◌, arith}
use Rattle.gate.specs.declared.Gate.{Gate}
use Rattle.promise.specs.declared.release.Release.{Release}
use Rattle.promise.specs.Views.{release, reply_of}
use Rattle.gate.specs.Rows.{releases_in}
use Rattle.gate.specs.Gates.{view_of, rules_in}
use Rattle.gate.proofs.Leaving.{Leaves, leaves, next_after, timely}
use Rattle.gate.proofs.Gate.release.Given as given
use Rattle.gate.proofs.Gate.release.Goals as goal

-- what the ledger is charged by the next release
left : (g : given.Over) (a : Gate g.row.S.Denot g.row.P.Denot g.row.R.Denot) (x : Release g.row.S-Body.Denot)
    → Ok x ≡ release (rules_in g.P.Pace g.R.Penalty a) (view_of g.S.Source a) → Leaves a.ledger x
left g a x e =
    leaves (rules_in g.P.Pace g.R.Penalty a)
    (record { pace = g.met.P.Pace.lawful a.pace; penalty = g.met.R.Penalty.lawful a.penalty })
    a.ledger (g.S.Source.coming a.source) (g.S.Source.mark a.source) (view_of g.S.Source a).taken
    (g.met.S.Source.lawful a.source) x e

pub charge-requires : goal.charge-requires
charge-requires g c =
    let k = left g c.args.self.now c.in_ok-next.next c.in_ok-next.ensures in
    record { known = k.known; after = omega (arith, k.up.rises); within = k.up.within; few = k.slow }

pub returns-clause-call : goal.returns-clause-call
returns-clause-call g c =
    let e = c.in_ok-next.ensures in
    let v = view_of g.S.Source c.args.self.now in
    let taken : sum (releases_in c.charge.new.self.rows) ≡ suc v.taken = omega (arith, c.charge.ensures.releases) in (
      ap reply_of e,
      (λ i. record { coming = c.take.ensures.rest i; mark = c.take.ensures.mark i; standing = c.charge.ensures.after i; taken = taken i })
          ∙ next_after (rules_in g.P.Pace g.R.Penalty c.args.self.now) v v.coming c.in_ok-next.next e,
    )

pub returns-clause-timely : goal.returns-clause-timely
returns-clause-timely g c =
    timely c.args.self.now.ledger c.in_ok-next.next (left g c.args.self.now c.in_ok-next.next c.in_ok-next.ensures)
