-- What is left is to write the bytes of what is left of the number.
use Rattle.std.proofs.Common.{◌-◌}
use Rattle.lent.proofs.Writing.{Due}
use Rattle.little.specs.Little.{little}
use Rattle.little.proofs.put.Given as goal

abbrev pub invariant-loop : goal.invariant-loop
invariant-loop l = Due (little l.size l.x) l.initial.out (little (l.size - l.counter) l.rest) l.out
