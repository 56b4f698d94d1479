-- The loop's invariant: the visits so far and those from `i` on are all of them. Assumes nothing.
use Rattle.std.proofs.Common.{◌≡◌, ◌+◌, ◌-◌, ◌≤◌, length, drop}
use Rattle.normalize_visits.specs.Visits.{visits_of}
use Rattle.normalize_visits.proofs.count_visits.Given as goal

abbrev pub invariant-loop-i : goal.invariant-loop-i
invariant-loop-i l = (l.visits ≤ l.i) × (l.visits + visits_of (drop l.i l.url) ≡ visits_of l.url)

abbrev pub decreases-loop-i : goal.decreases-loop-i
decreases-loop-i l = length l.url - l.i
