-- The loop's invariant: the backreferences of the first `i` calls are appended. Assumes nothing.
use Rattle.lent.specs.Fill.{Filled}
use Rattle.write_footnote.specs.Address.{address_text}
use Rattle.machine.specs.Section.{backreferences}
use Rattle.write_footnote.proofs.put_backreferences.Given as goal

abbrev pub invariant-loop-i : goal.invariant-loop-i
invariant-loop-i l = Filled l.initial.out l.at (backreferences (address_text l.address) l.i) l.out l.r
