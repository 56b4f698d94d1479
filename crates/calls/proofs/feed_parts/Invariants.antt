-- The parts stand one behind the other in the bytes. Assumes nothing.
use Rattle.std.proofs.Common.{◌≤◌, length}
use Rattle.calls.proofs.feed_parts.Given as goal

abbrev pub invariant-loop-length : goal.invariant-loop-length
invariant-loop-length l = l.at ≤ length l.bytes
