-- A lane more, and the last. Assumes nothing.
use Rattle.std.proofs.Common.{rules}
use Rattle.bundle_block.proofs.Check.{weigh-one, weighed-fits, weigh-end}
use Rattle.bundle_block.proofs.Lanes.{behind}
use Rattle.bundle_block.proofs.weigh_lanes.Goals as goal

pub overflow_add-sum : goal.overflow_add-sum
overflow_add-sum c = search (weighed-fits, rules)

pub loop-lane-preserved : goal.loop-lane-preserved
loop-lane-preserved c = search (weigh-one, rules)

pub returns : goal.returns
returns c = search (weigh-end, behind)
