use Rattle.std.proofs.Common.{◌≡◌, length, take, ◌∙◌, subst, arith}
use Rattle.std.proofs.lemmas.List.{length-take-le, get_or-take}
use Rattle.promise.specs.Rules.{Rules}
use Rattle.promise.specs.Runs.{Call, Played}
use Rattle.gate.specs.Gates.{view_of}
use Rattle.play.proofs.Playing.{playing_more, played}
use Rattle.play.proofs.play.Goals as goal

pub loop-i-preserved : goal.loop-i-preserved
loop-i-preserved g c =
    let i = c.loop-i.invariant in
    let e = c.ask.ensures in
    let n : length (take c.min-count.result c.args.requests.now) ≡ c.min-count.result
    = length-take-le c.min-count.result c.args.requests.now (omega (arith, c.min-count.ensures)) in (
      e.same ∙ i.0,
      playing_more _ _ _ _ _ _ _ i.1 _ _ _ (omega (arith, n, c.min-count.ensures)) (omega (arith, n, c.min-count.ensures))
          (subst (λ (m : Rules). Call m (view_of g.S.Source c.loop-i.gate) c.ask.result (view_of g.S.Source c.ask.new.gate)) i.0 e.call)
          (e.asked ∙ get_or-take c.min-count.result c.args.requests.now c.loop-i.i _ (omega (arith, n))),
    )

pub returns-clause-played : goal.returns-clause-played
returns-clause-played g c =
    let n : c.loop-i.i ≡ c.min-count.result = omega (arith, length-take-le c.min-count.result c.args.requests.now (omega (arith, c.min-count.ensures))) in
    subst (Played _ _ _ _ _ _) n (played _ _ _ _ _ _ _ c.loop-i.invariant.1 (omega (arith, n, c.min-count.ensures)))
