-- The loop's invariant: the part from `i` on is the part sought. Assumes nothing.
use Rattle.std.proofs.Common.{◌≡◌, ◌≤◌, drop}
use Rattle.event.specs.Event.{events_of}
use Rattle.check_labels.specs.Labels.{own_part}
use Rattle.check_labels.proofs.own_part.Given as goal

abbrev pub invariant-loop-i : goal.invariant-loop-i
invariant-loop-i l = (l.depth ≤ l.i) × (own_part l.n l.at l.depth (drop l.i (events_of l.events)) ≡ own_part l.n l.at 0 (drop l.from (events_of l.events)))
