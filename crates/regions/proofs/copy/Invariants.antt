-- The first i bytes are copied.
use Rattle.regions.proofs.Moves.{Copying}
use Rattle.regions.proofs.copy.Given as goal

abbrev pub invariant-loop-i : goal.invariant-loop-i
invariant-loop-i l = Copying l.initial.w l.from l.n l.at l.w l.i
