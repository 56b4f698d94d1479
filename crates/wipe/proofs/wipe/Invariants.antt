-- The first `k` parts are zero. Assumes nothing.
use Rattle.std.proofs.Common.{◌≡◌, ◌*◌, length, take}
use Rattle.lent.specs.Fill.{zeros}
use Rattle.wipe.proofs.wipe.Given as goal

abbrev pub invariant-loop-k : goal.invariant-loop-k
invariant-loop-k l = (take (16384 * l.k) l.out ≡ zeros (16384 * l.k)) × (length l.out ≡ length l.initial.out)
