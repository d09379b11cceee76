use Rattle.std.proofs.Common.{◌+◌, ◌<◌, ◌≤◌, length, ◌∙◌, arith, length-set}
use Rattle.promise.proofs.Sums.{part_of_sum}
use Rattle.gate.specs.Rows.{misses_at, releases_in}
use Rattle.gate.proofs.Rows.{releases_at, few_between, all_misses_few, misses_sum, releases_sum, charged_set}
use Rattle.gate.proofs.ledger.Ledger.charge.Goals as goal

pub overflow_add-self : goal.overflow_add-self
overflow_add-self c =
    let l = c.args.self.now in
    let n : misses_at l.rows c.args.«class» + c.args.settled.misses ≤ 29 = few_between _ l.opening _ c.requires.few c.requires.within in
    omega (arith, n, all_misses_few l)

pub charge-requires : goal.charge-requires
charge-requires c =
    let l = c.args.self.now in
    let n : misses_at l.rows c.args.«class» + c.args.settled.misses ≤ 29 = few_between _ l.opening _ c.requires.few c.requires.within in
    record {
      misses = omega (arith, n);
      releases = omega (arith, part_of_sum (releases_in l.rows) c.args.«class», releases_at l.rows c.args.«class», l.counted, l.within);
    }

pub invariant_of-self : goal.invariant_of-self
invariant_of-self c =
    let l = c.args.self.now in
    let k = c.args.«class» in
    let s = c.args.settled in
    let row = c.charge.new.self in
    let is = c.charge.ensures in
    let r = c.requires in
    let short : k < length l.rows = omega (arith, l.table, r.known) in
    record {
      table = length-set l.rows k row ∙ l.table;
      after = omega (arith, r.after, l.after);
      within = r.within;
      charged = charged_set l.rows k s row is short l.opening l.clock (omega (arith, r.after)) r.few l.charged;
      summed = omega (arith, misses_sum l.rows k s row is short, l.summed);
      counted = omega (arith, releases_sum l.rows k s row is short, r.after, l.after, l.counted);
    }

pub returns-clause-releases : goal.returns-clause-releases
returns-clause-releases c =
    let l = c.args.self.now in
    releases_sum l.rows c.args.«class» c.args.settled c.charge.new.self c.charge.ensures (omega (arith, l.table, c.requires.known))
