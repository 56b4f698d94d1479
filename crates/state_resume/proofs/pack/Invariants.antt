-- What is left to move is the bytes from i on.
use Rattle.state_resume.proofs.Moves.{Packing}
use Rattle.state_resume.proofs.pack.Given as goal

abbrev pub invariant-loop-i : goal.invariant-loop-i
invariant-loop-i l = Packing l.pipes l.initial.w l.at l.from l.to l.w l.r l.i
