-- The loop's invariant: the first `lane` lanes are added. Assumes nothing.
use Rattle.std.proofs.Common.{◌≡◌, take}
use Rattle.bundle_block.specs.Lanes.{added}
use Rattle.bundle_block.proofs.add_lanes.Given as goal

abbrev pub invariant-loop-lane : goal.invariant-loop-lane
invariant-loop-lane l = (l.lanes ≡ added l.initial.lanes (take l.lane l.more))
