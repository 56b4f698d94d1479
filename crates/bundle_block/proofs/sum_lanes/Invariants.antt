-- The loop's invariant: the sum so far and that from `n` on are the whole. Assumes nothing.
use Rattle.std.proofs.Common.{◌≡◌, ◌+◌, drop}
use Rattle.bundle_block.specs.Lanes.{sum_of}
use Rattle.bundle_block.proofs.sum_lanes.Given as goal

abbrev pub invariant-loop-n : goal.invariant-loop-n
invariant-loop-n l = (l.sum + sum_of (drop l.n-index l.lanes) ≡ sum_of l.lanes)
