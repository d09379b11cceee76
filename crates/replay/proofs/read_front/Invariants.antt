use Rattle.std.proofs.Common.{◌-◌, ◌≤◌, vec_len}
use Rattle.replay.proofs.read_front.Given as goal

abbrev pub invariant-loop-length : goal.invariant-loop-length
invariant-loop-length l = (l.length ≤ vec_len l.bytes) × (vec_len l.bytes ≤ l.most)

abbrev pub decreases-loop-length : goal.decreases-loop-length
decreases-loop-length l = vec_len l.bytes - l.length
