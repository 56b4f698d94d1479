-- What is left to walk decides.
use Rattle.run_line_ending.proofs.Laws.{Walks}
use Rattle.run_line_ending.proofs.find_ending.Given as goal

abbrev pub invariant-loop-i : goal.invariant-loop-i
invariant-loop-i l = Walks l.default l.text l.events l.n l.i
