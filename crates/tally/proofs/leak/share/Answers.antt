use Rattle.std.proofs.Common.{◌≡◌, ℕ, ◌≤◌, sym, ap, ◌∙◌, subst}
use Rattle.promise.specs.Leaks.{Most, most_of, share}
use Rattle.promise.proofs.Mosts.{most_is}
use Rattle.pace.proofs.Answering.{known_class}
use Rattle.tally.proofs.leak.share.Goals as goal

pub most_misses-requires-clause-some : goal.most_misses-requires-clause-some
most_misses-requires-clause-some g c =
    let q = known_class c.args.«class» _ _ c.requires.known c.in-Ok.ensures in
    subst (λ n. 1 ≤ n) (sym q) ((g.met.P.Pace.lawful c.args.quanta.now).quantum_low c.args.«class» c.requires.known)

pub returns-clause-value : goal.returns-clause-value
returns-clause-value g c =
    let n : ℕ = g.P.Pace.quanta c.args.quanta.now c.args.«class» in
    let q : c.in-Ok.quantum ≡ n = known_class c.args.«class» _ _ c.requires.known c.in-Ok.ensures in
    let most : Most n c.args.span c.most_misses.result = subst (λ k. Most k c.args.span c.most_misses.result) q c.most_misses.ensures.most in
    most_is n c.args.span c.most_misses.result ((g.met.P.Pace.lawful c.args.quanta.now).quantum_low c.args.«class» c.requires.known) c.requires.within most
    ∙ sym (ap (share (most_of n c.args.span)) c.if-not-occurs.false)
