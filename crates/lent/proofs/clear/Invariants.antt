-- Zeros from `i` on make what zeros from `from` on make of the buffer lent. Assumes nothing.
use Rattle.std.proofs.Common.{◌≡◌, ◌++◌, ◌-◌, length, take}
use Rattle.lent.specs.Fill.{zeros}
use Rattle.lent.proofs.clear.Given as goal

abbrev pub invariant-loop-i : goal.invariant-loop-i
invariant-loop-i l = (take l.i l.out ++ zeros (length l.out - l.i) ≡ take l.from l.initial.out ++ zeros (length l.initial.out - l.from)) × (length l.out ≡ length l.initial.out)
