use Rattle.std.proofs.Common.{◌≡◌, ◌+◌, ◌<◌, ◌≤◌, false, length, Ok, sym, ap, ◌∙◌, subst, arith}
use lib.ListN.{length-map}
use Rattle.gate.specs.declared.Gate.{Gate}
use Rattle.promise.specs.declared.release.Release.{Release}
use Rattle.gate.specs.declared.row.Row.{Row}
use Rattle.promise.specs.Rules.{Rules}
use Rattle.promise.specs.Views.{all, release, answer, next, Timely}
use Rattle.gate.specs.Gates.{view_of, rules_in}
use Rattle.tally.specs.Tallies.{roomy, taken, row_answer}
use Rattle.page.specs.Pages.{row_bytes, lined}
use Rattle.gate.proofs.Rows.{all_few}
use Rattle.driver.specs.Replays.{row_of, Stops}
use Rattle.driver.proofs.Driving.{accepted, driven_more, stopped}
use Rattle.driver.proofs.replay.fill.Given as given
use Rattle.driver.proofs.replay.fill.Goals as goal

-- one release, by the rules that the gate had at first
record Turn (g : given.Over) (m : Rules) (a b : Gate g.row.S.Denot g.row.P.Denot g.row.R.Denot) (x : Release g.row.S-Body.Denot) : Type 0 where
  pub out : Ok x ≡ release m (view_of g.S.Source a)
  pub is : view_of g.S.Source b ≡ next m (view_of g.S.Source a)
  pub inside : x.reply.«class» < length (view_of g.S.Source a).standing.misses
  pub few : all (view_of g.S.Source b).standing ≤ 232

turn : (g : given.Over) (m : Rules) (a b : Gate g.row.S.Denot g.row.P.Denot g.row.R.Denot) (x : Release g.row.S-Body.Denot)
    → rules_in g.P.Pace g.R.Penalty a ≡ m
    → Ok x ≡ release (rules_in g.P.Pace g.R.Penalty a) (view_of g.S.Source a)
    → view_of g.S.Source b ≡ next (rules_in g.P.Pace g.R.Penalty a) (view_of g.S.Source a)
    → Timely (view_of g.S.Source a).standing.clock x → Turn g m a b x
turn g m a b x e out is timely =
    let l = b.ledger in
    let n : length (view_of g.S.Source a).standing.misses ≡ 8 = length-map a.ledger.rows (λ (r : Row). r.misses) ∙ a.ledger.table in
    record {
      out = subst (λ r. Ok x ≡ release r (view_of g.S.Source a)) e out;
      is = subst (λ r. view_of g.S.Source b ≡ next r (view_of g.S.Source a)) e is;
      inside = omega (arith, timely.known, n);
      few = all_few l.rows l.opening l.clock l.table l.within l.charged;
    }

pub loop-gate-preserved : goal.loop-gate-preserved
loop-gate-preserved g c =
    let m = rules_in g.P.Pace g.R.Penalty c.args.gate.now in
    let i = c.loop-gate.invariant in
    let x = c.in-Ok.release in
    let e = c.in-Ok.ensures in
    let k = turn g m c.loop-gate.gate c.release.new.self x i.0 e.value e.call.1 e.timely in
    let r = c.in-Ok-row.ensures.after in
    let t = c.loop-gate.page.account.tally in
    let row : c.from.result ≡ row_of x = c.from.ensures in (
      e.same ∙ i.0,
      driven_more m _ _ _ _ c.loop-gate.page.account.tally _ c.loop-gate.buf x i.1 k.out k.is k.inside
          c.row.new.self.account.tally c.row.new.buf (r.0 ∙ ap (taken t) row) (r.1 ∙ ap (λ y. lined t.rows (row_bytes (t.rows + 1) y) c.loop-gate.buf) row) c.row.auto.buf (sym c.loop-gate-test.ensures),
    )

pub unreachable-requires : goal.unreachable-requires
unreachable-requires g c =
    let m = rules_in g.P.Pace g.R.Penalty c.args.gate.now in
    let i = c.loop-gate.invariant in
    let x = c.in-Ok.release in
    let e = c.in-Ok.ensures in
    let k = turn g m c.loop-gate.gate c.release.new.self x i.0 e.value e.call.1 e.timely in
    let row : c.from.result ≡ row_of x = c.from.ensures in
    c.in_default.not-Ok tt
    (c.row.ensures.value ∙ ap (λ y. row_answer c.loop-gate.page.account.tally y (length c.loop-gate.buf)) row
    ∙ accepted m _ _ _ _ c.loop-gate.page.account.tally _ c.loop-gate.buf x i.1 k.out k.is k.inside e.timely k.few (sym c.loop-gate-test.ensures))

pub returns : goal.returns
returns g c =
    let m = rules_in g.P.Pace g.R.Penalty c.args.gate.now in
    let i = c.loop-gate.invariant in
    let v = view_of g.S.Source c.loop-gate.gate in
    let t = c.loop-gate.page.account.tally in
    let answered : c.head.result ≡ answer m v = subst (λ r. c.head.result ≡ answer r v) i.0 c.head.ensures.call.0 in
    let full : roomy t (length c.args.buf.now) ≡ false = ap (λ n. roomy t n) (sym c.loop-gate.auto.buf) ∙ sym c.loop-gate-test.ensures in
    record {
      fills = record {
        row_list = i.1.row_list;
        releases = i.1.releases;
        tally = i.1.tally;
        bytes = i.1.bytes;
        stops = subst (Stops m v t (length c.args.buf.now)) (sym c.err.ensures.value) (stopped m v t (length c.args.buf.now) c.head.result answered full);
      };
      same = i.0;
      room = i.1.room;
    }
