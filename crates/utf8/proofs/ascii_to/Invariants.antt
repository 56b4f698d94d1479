-- The run of ASCII bytes from `from` on ends where that from `at` on does. Assumes nothing.
use Rattle.std.proofs.Common.{◌≡◌, ◌+◌, drop}
use Rattle.utf8.specs.Private.{ascii_run}
use Rattle.utf8.proofs.ascii_to.Given as goal

abbrev pub invariant-loop-at : goal.invariant-loop-at
invariant-loop-at l = l.at + ascii_run (drop l.at l.s) ≡ l.from + ascii_run (drop l.from l.s)
