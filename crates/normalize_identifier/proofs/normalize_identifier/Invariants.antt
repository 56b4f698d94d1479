-- The loop's invariant: what the iterator has left is all that is left to append. Assumes nothing.
use Rattle.lent.proofs.Writing.{Due}
use Rattle.normalize_identifier.specs.Identity.{identity_of}
use Rattle.normalize_identifier.specs.Left.{left}
use Rattle.normalize_identifier.proofs.normalize_identifier.Given as goal

abbrev pub invariant-loop-b : goal.invariant-loop-b
invariant-loop-b l = Due (identity_of l.value) l.initial.out (left l.b-iterator) l.out
