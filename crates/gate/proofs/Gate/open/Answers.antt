use Rattle.promise.proofs.Kept.{kept}
use Rattle.gate.proofs.Gate.open.Goals as goal

pub returns-clause-promise : goal.returns-clause-promise
returns-clause-promise g c =
    kept _ (record { pace = g.met.P.Pace.lawful c.args.pace; penalty = g.met.R.Penalty.lawful c.args.penalty })
    _ (g.met.S.Source.lawful c.args.source) _ _ c.args.opening.high
