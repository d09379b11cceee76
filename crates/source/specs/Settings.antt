-- Checked settings. Nothing is assumed.
--   checked   the setting itself, or the refusal of one below its lowest or above its highest
use Rattle.std.specs.Prelude.{ℕ, true, false, ◌&&◌, Ok, Err, Result, nat_le}
use Rattle.source.specs.declared.fault.OutOfRange.{OutOfRange}

abbrev pub checked : ℕ → ℕ → ℕ → Result ℕ OutOfRange
checked lowest highest n = elim (nat_le lowest n && nat_le n highest) [ true ↦ Ok n | false ↦ Err (record {}) ]
