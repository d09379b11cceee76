use Rattle.std.proofs.Common.{arith}
use Rattle.rows.proofs.Scans.{room_for_digit}
use Rattle.rows.proofs.field.shown_number.Goals as goal

pub overflow_mul-value : goal.overflow_mul-value
overflow_mul-value c = omega (arith, room_for_digit _ _ (rw c.in-Some-48-to-57.is-0 at c.loop-b.invariant.low) (omega arith))

pub overflow_add-value : goal.overflow_add-value
overflow_add-value c = omega (arith, room_for_digit _ _ (rw c.in-Some-48-to-57.is-0 at c.loop-b.invariant.low) (omega arith))
