-- What was seen and what is left make up the answer. Assumes nothing.
use Rattle.std.proofs.Common.{◌≡◌, ◌||◌, drop}
use Rattle.lent.specs.Bytes.{any}
use Rattle.wipe.specs.Set.{is_set}
use Rattle.wipe.proofs.has_any.Given as goal

abbrev pub invariant-loop-b : goal.invariant-loop-b
invariant-loop-b l = (is_set l.found || any is_set (drop l.b-index l.s)) ≡ any is_set l.s
