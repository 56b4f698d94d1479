-- The loop's invariant: the URLs passed, and those from `i` on without a fault, are all of them. Assumes nothing.
use Rattle.std.proofs.Common.{◌≡◌, ◌+◌, drop}
use Rattle.call_links_answer.specs.Links.{ordered}
use Rattle.call_links_answer.proofs.count_ordered.Given as goal

abbrev pub invariant-loop-i : goal.invariant-loop-i
invariant-loop-i l = l.i + ordered l.size l.before (drop l.i l.ends) ≡ ordered l.size 0 l.ends
