use Rattle.std.proofs.Common.{sym, ◌∙◌, arith}
use Rattle.std.proofs.lemmas.Bool.{leb-true, leb-false}
use Rattle.promise.specs.Rules.{Rules, Laws, rules_of}
use Rattle.gate.proofs.Turns.{onward_met, onward_missed, onward_past}
use Rattle.gate.proofs.predict.Predictor.settle.Goals as goal

pub returns-in_err-tick : goal.returns-in_err-tick
returns-in_err-tick g c =
    rw c.from_residual.ensures (onward_past _ c.args.pending _ c.loop-tick.next c.loop-tick.invariant (c.in_err-tick.ensures {u = tt}))

pub returns-then-ready_by : goal.returns-then-ready_by
returns-then-ready_by g c =
    let s = c.args.self.now in
    let tick = c.in_ok-tick.tick in
    let is = c.in_ok-tick.ensures {u = tt} in
    let ready = leb-true c.loop-tick.next.ready tick (sym c.ready_by.ensures ∙ c.if-ready_by.true) in
    onward_met (rules_of g.P.Pace g.R.Penalty s.pace.now s.penalty.now) c.args.pending c.loop-tick.misses c.loop-tick.next
    c.loop-tick.invariant tick is.0 ready (omega (arith, is))

pub loop-tick-preserved : goal.loop-tick-preserved
loop-tick-preserved g c =
    let s = c.args.self.now in
    let m : Rules = rules_of g.P.Pace g.R.Penalty s.pace.now s.penalty.now in
    let laws : Laws m = record { pace = g.met.P.Pace.lawful s.pace.now; penalty = g.met.R.Penalty.lawful s.penalty.now } in
    let n = c.loop-tick.next in
    let tick = c.in_ok-tick.tick in
    let is = c.in_ok-tick.ensures {u = tt} in
    let late = leb-false n.ready tick (sym c.ready_by.ensures ∙ c.if-ready_by.false) in
    let h = c.missed-next.ensures in
    onward_missed m c.args.pending c.loop-tick.misses n c.loop-tick.invariant laws (omega (arith, is, late)) (omega (arith, is))
    c.missed-next.result h.same (h.after.0, h.after.1, h.after.2 ∙ is.0)
