-- A ledger's table: the misses and releases of its rows, one by one and summed.
use Rattle.std.proofs.Common.{◌≡◌, ℕ, ◌+◌, ◌-◌, ◌*◌, ◌^◌, ◌<◌, ◌≤◌, List, length, get_or, set, sum, sym, ap, ◌∙◌, inl, inr, arith, get_or-set_other, get_or-set_same}
use lib.ListN.{length-map, get_or-map}
use Rattle.std.proofs.lemmas.List.Sums.{sum-map, sum_by-set}
use Rattle.std.proofs.lemmas.Bool.{cases_eq}
use Rattle.source.specs.Replies.{horizon}
use Rattle.promise.specs.declared.release.Settled.{Settled}
use Rattle.gate.specs.declared.row.Row.{Row}
use Rattle.gate.specs.declared.ledger.Ledger.{Ledger}
use Rattle.gate.specs.Rows.{no_row, misses_at, misses_in, releases_in}
use Rattle.promise.proofs.Sums.{sum_few, part_of_sum}
use Rattle.promise.proofs.Settling.{few}

pub misses_at_is : (rows : List Row) (c : ℕ) → misses_at rows c ≡ get_or (misses_in rows) c 0
misses_at_is rows c = sym (get_or-map (λ (r : Row). r.misses) rows c no_row)

pub releases_at : (rows : List Row) (c : ℕ) → (get_or rows c no_row).releases ≡ get_or (releases_in rows) c 0
releases_at rows c = sym (get_or-map (λ (r : Row). r.releases) rows c no_row)

-- so many doublings fit between an opening and a tick
pub few_between : (n opening tick : ℕ) → 2 ^ n - 1 ≤ tick - opening → tick ≤ horizon → n ≤ 29
few_between n opening tick slow within = few n tick (omega (arith, slow)) within

-- what a ledger's facts give: no class has more than 29 misses, and all have at most 232
module _ (rows : List Row) (opening clock : ℕ) (table : length rows ≡ 8) (within : clock ≤ 1000000000)
    (charged : (c : ℕ) → c < 8 → 2 ^ misses_at rows c - 1 ≤ clock - opening) where
  pub own_few : (c : ℕ) → c < 8 → misses_at rows c ≤ 29
  own_few c h = few_between (misses_at rows c) opening clock (charged c h) within

  pub all_few : sum (misses_in rows) ≤ 232
  all_few =
      let n : length (misses_in rows) ≡ 8 = length-map rows (λ (r : Row). r.misses) ∙ table in
      let s : sum (misses_in rows) ≤ 29 * length (misses_in rows)
      = sum_few (misses_in rows) 29 (λ i h. let o = own_few i (omega arith) in omega (arith, o, misses_at_is rows i)) in
      omega arith

-- the same of a ledger: the misses of all classes are few, and those of one are a part of them
pub all_misses_few : (l : Ledger) → l.all_misses ≤ 232
all_misses_few l = omega (arith, l.summed, all_few l.rows l.opening l.clock l.table l.within l.charged)

pub own_part : (l : Ledger) (c : ℕ) → misses_at l.rows c ≤ l.all_misses
own_part l c = omega (arith, l.summed, misses_at_is l.rows c, part_of_sum (misses_in l.rows) c)

-- a row charged one release after some misses
abbrev pub charged_row : List Row → ℕ → Settled → Row
charged_row rows c s = record { misses = misses_at rows c + s.misses; releases = (get_or rows c no_row).releases + 1 }

module _ (rows : List Row) (c : ℕ) (s : Settled) (row : Row) (is : row ≡ charged_row rows c s) (short : c < length rows) where
  pub misses_sum : sum (misses_in (set rows c row)) ≡ sum (misses_in rows) + s.misses
  misses_sum =
      let m : row.misses ≡ misses_at rows c + s.misses = ap (λ (r : Row). r.misses) is in
      omega (arith, sum_by-set (λ (r : Row). r.misses) rows c row no_row short, sum-map (λ (r : Row). r.misses) rows, sum-map (λ (r : Row). r.misses) (set rows c row))

  pub releases_sum : sum (releases_in (set rows c row)) ≡ sum (releases_in rows) + 1
  releases_sum =
      let m : row.releases ≡ (get_or rows c no_row).releases + 1 = ap (λ (r : Row). r.releases) is in
      omega (arith, sum_by-set (λ (r : Row). r.releases) rows c row no_row short, sum-map (λ (r : Row). r.releases) rows, sum-map (λ (r : Row). r.releases) (set rows c row))

  -- the ledger's fact about the misses of each class stays
  pub charged_set : (opening clock : ℕ) → clock ≤ s.tick → 2 ^ (misses_at rows c + s.misses) - 1 ≤ s.tick - opening
      → ((i : ℕ) → i < 8 → 2 ^ misses_at rows i - 1 ≤ clock - opening)
      → (i : ℕ) → i < 8 → 2 ^ misses_at (set rows c row) i - 1 ≤ s.tick - opening
  charged_set opening clock later slow old i lt =
      elim (cases_eq i c) [
        | inl e ↦
            (let same : get_or (set rows c row) i no_row ≡ charged_row rows c s
            = ap (λ n. get_or (set rows c row) n no_row) e ∙ get_or-set_same rows c row no_row short ∙ is in
            let p : 2 ^ misses_at (set rows c row) i ≡ 2 ^ (misses_at rows c + s.misses) = ap (λ (r : Row). 2 ^ r.misses) same in
            omega (arith, slow))
        | inr ne ↦
            (let other : 2 ^ misses_at (set rows c row) i ≡ 2 ^ misses_at rows i
            = ap (λ (r : Row). 2 ^ r.misses) (get_or-set_other rows c i row no_row ne) in
            omega (arith, old i lt))
      ]
