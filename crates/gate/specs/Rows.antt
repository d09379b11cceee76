-- The rows of a ledger, read by class. Nothing is assumed.
--   misses_at     the misses of one class
--   misses_in     the misses of the classes in order; releases_in, their releases
use Rattle.std.specs.Prelude.{ℕ, List, map, slice_index_or}
use Rattle.gate.specs.declared.row.Row.{Row}

abbrev pub no_row : Row
no_row = record { misses = 0; releases = 0 }

abbrev pub misses_at : List Row → ℕ → ℕ
misses_at rows c = (slice_index_or rows c no_row).misses

abbrev pub misses_in : List Row → List ℕ
misses_in rows = map (λ (r : Row). r.misses) rows

abbrev pub releases_in : List Row → List ℕ
releases_in rows = map (λ (r : Row). r.releases) rows
