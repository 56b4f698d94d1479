-- The loop's invariant: nothing is to be done at the events that were passed. Assumes nothing.
use Rattle.std.proofs.Common.{◌≡◌, ◌/◌, ◌≤◌, max, length}
use Rattle.run_next.specs.Walks.{Walks}
use Rattle.run_next.proofs.walk.Given as goal

abbrev pub invariant-loop-at : goal.invariant-loop-at
invariant-loop-at l = (l.n ≡ length l.events / 20) × Walks l.first l.events l.initial.inside l.start l.inside l.at × (l.at ≤ max l.n l.start)
