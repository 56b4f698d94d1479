-- From k on the bytes are moved.
use Rattle.state_resume.proofs.Moves.{Rising}
use Rattle.state_resume.proofs.shift_up.Given as goal

abbrev pub invariant-loop-k : goal.invariant-loop-k
invariant-loop-k l = Rising l.initial.w l.from l.to l.n l.w l.k
