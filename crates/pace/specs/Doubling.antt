-- A pace that doubles: what its table holds, and which quanta it takes. Nothing is assumed.
--   quanta_of    the quanta of the classes 0 to 7
--   new_quanta   those of a new table, each 1,000,000
--   quantum_at   the quantum of a class, 1,000,000 where none is held
--   set_answer   whether a quantum is taken, or why it is refused: its class, its range
use Rattle.std.specs.Prelude.{ℕ, true, false, ◌&&◌, List, map, replicate, Ok, Err, Result, nat_le, slice_index_or}
use Rattle.pace.specs.declared.fault.QuantumFault.{QuantumFault}
use Rattle.pace.specs.declared.fault.QuantumFault.TheVariants.{Class, Range}
use Rattle.source.specs.declared.setting.Setting.{Setting}
use Rattle.pace.specs.declared.doubling.Doubling.{Doubling}

abbrev pub ticks_of : Setting 1 1000000 → ℕ
ticks_of q = q.value

abbrev pub quanta_of : Doubling → List ℕ
quanta_of d = map ticks_of d.quanta

abbrev pub new_quanta : List ℕ
new_quanta = replicate 8 1000000

abbrev pub quantum_at : List ℕ → ℕ → ℕ
quantum_at quanta c = slice_index_or quanta c 1000000

abbrev pub set_answer : ℕ → ℕ → Result (Unit {0}) QuantumFault
set_answer c q = elim (nat_le c 7) [ true ↦ elim (nat_le 1 q && nat_le q 1000000) [ true ↦ Ok tt | false ↦ Err Range ] | false ↦ Err (Class (record {})) ]
