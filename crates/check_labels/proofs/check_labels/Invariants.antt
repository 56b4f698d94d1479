-- The first from `i` on that does not hold is the first of all. Assumes nothing.
use Rattle.check_labels.specs.Uses.{FirstFrom}
use Rattle.check_labels.proofs.check_labels.Given as goal

abbrev pub invariant-loop-i : goal.invariant-loop-i
invariant-loop-i l = FirstFrom l.text l.events l.i
