-- The loop's invariant: the sum so far and that from `place` on are the whole. Assumes nothing.
use Rattle.std.proofs.Common.{◌≡◌, ◌+◌, drop}
use Rattle.bundle_block.specs.Block.{weighed, check_of}
use Rattle.bundle_block.proofs.check_of.Given as goal

abbrev pub invariant-loop-place : goal.invariant-loop-place
invariant-loop-place l = l.sum + weighed l.place (drop l.place l.front) ≡ check_of l.front
