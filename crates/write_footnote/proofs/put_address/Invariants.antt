-- The loop's invariant: what is left is the address of what is left of the identity. Assumes nothing.
use Rattle.lent.proofs.Laws.{Left}
use Rattle.normalize_identifier.specs.Left.{left}
use Rattle.write_footnote.specs.Address.{address_text}
use Rattle.write_footnote.proofs.Laws.{address_left}
use Rattle.write_footnote.proofs.put_address.Given as goal

abbrev pub invariant-loop-b : goal.invariant-loop-b
invariant-loop-b l = Left l.initial.out l.at (address_text l.address) l.out l.end (address_left l.address.apostrophes (left l.rest))
