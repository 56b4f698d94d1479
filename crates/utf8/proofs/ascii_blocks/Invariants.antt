-- The loop's invariant: the run of ASCII bytes from `from` on ends where that from `at` on does. Assumes nothing.
use Rattle.std.proofs.Common.{◌≡◌, ◌+◌, ◌-◌, length, drop}
use Rattle.utf8.specs.Private.{ascii_run}
use Rattle.utf8.proofs.ascii_blocks.Given as goal

abbrev pub invariant-loop-at : goal.invariant-loop-at
invariant-loop-at l = l.at + ascii_run (drop l.at l.s) ≡ l.from + ascii_run (drop l.from l.s)

abbrev pub decreases-loop-at : goal.decreases-loop-at
decreases-loop-at l = length l.s - l.at
