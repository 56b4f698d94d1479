-- A lane more is added. Assumes nothing.
use Rattle.std.proofs.Common.{rules}
use Rattle.bundle_block.specs.Lanes.{added}
use Rattle.bundle_block.proofs.Lanes.{lane-fits, lane-added}
use Rattle.bundle_block.proofs.add_lanes.Goals as goal

pub loop-lane-init : goal.loop-lane-init
unfolding added
loop-lane-init c = search rules

pub overflow_add-lanes : goal.overflow_add-lanes
overflow_add-lanes c = search lane-fits

pub loop-lane-preserved : goal.loop-lane-preserved
loop-lane-preserved c = search (lane-added, rules)
