-- The loop's invariant: none of the events that were passed is a definition's. Assumes nothing.
use Rattle.std.proofs.Common.{◌≡◌, true, false, ◌/◌, ◌≤◌, max, length}
use Rattle.run_next.specs.Walks.{Walks}
use Rattle.run_next.proofs.next_definition.Given as goal

abbrev pub invariant-loop-i : goal.invariant-loop-i
invariant-loop-i l = (l.n ≡ length l.events / 20) × Walks true l.events false l.from false l.i × (l.i ≤ max l.n l.from)
