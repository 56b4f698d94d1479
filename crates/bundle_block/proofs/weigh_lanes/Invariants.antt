-- The loop's invariant: the sum so far and that from `lane` on are the whole. Assumes nothing.
use Rattle.std.proofs.Common.{◌≡◌, ◌+◌, drop}
use Rattle.bundle_block.specs.Block.{weighed}
use Rattle.bundle_block.proofs.weigh_lanes.Given as goal

abbrev pub invariant-loop-lane : goal.invariant-loop-lane
invariant-loop-lane l = (l.weight ≡ l.place + l.lane) × (l.sum + weighed l.weight (drop l.lane l.lanes) ≡ weighed l.place l.lanes)
