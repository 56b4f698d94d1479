-- What is left is to append the spaces that are left. Assumes nothing.
use Rattle.std.proofs.Common.{◌-◌, replicate}
use Rattle.lent.proofs.Laws.{Left}
use Rattle.write_pieces.proofs.put_spaces.Given as goal

abbrev pub invariant-loop : goal.invariant-loop
invariant-loop l = Left l.initial.out l.at (replicate l.n 32) l.out l.r (replicate (l.n - l.counter) 32)
