-- Nothing is left, or a byte and what is left behind it. Assumes nothing.
use Rattle.std.proofs.Common.{rules}
use Rattle.normalize_identifier.proofs.IdentityIterator.next.Goals as goal
use Rattle.normalize_identifier.proofs.Laws.{left-more, left_end}

pub returns-in_err-b-clause-steps : goal.returns-in_err-b-clause-steps
returns-in_err-b-clause-steps c = rw c.from_residual.ensures (left_end c.next.ensures c.in_err-b.was, left_end c.next.ensures c.in_err-b.was)

pub returns-clause-steps : goal.returns-clause-steps
returns-clause-steps c = left-more c.next.ensures c.in_ok-b.was

pub returns-clause-goes : goal.returns-clause-goes
returns-clause-goes c = let e = left-more c.next.ensures c.in_ok-b.was in search rules
