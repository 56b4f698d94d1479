-- The loop's invariant: the label is among those left exactly when it is among all. Assumes nothing.
use Rattle.check_labels.proofs.Next.{Searching}
use Rattle.check_labels.proofs.has_label.Given as goal

abbrev pub invariant-loop-i : goal.invariant-loop-i
invariant-loop-i l = Searching l.text l.events l.n l.label l.i l.k
