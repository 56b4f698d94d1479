-- The first `i` bytes are filled in.
use Rattle.std.proofs.Common.{◌≡◌, length, take}
use Rattle.lent.specs.Fill.{fill}
use Rattle.lent.proofs.copy.Given as goal

abbrev pub invariant-loop-i : goal.invariant-loop-i
invariant-loop-i l = (l.out ≡ fill l.initial.out l.at (take l.i l.s)) × (length l.out ≡ length l.initial.out)
