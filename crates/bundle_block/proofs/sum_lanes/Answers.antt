-- A lane more, and the last. Assumes nothing.
use Rattle.std.proofs.Common.{rules}
use Rattle.bundle_block.proofs.Lanes.{behind, sum_one, sum_fits, sum-end}
use Rattle.bundle_block.proofs.sum_lanes.Goals as goal

pub overflow_add-sum : goal.overflow_add-sum
overflow_add-sum c = search (sum_fits, rules)

pub loop-n-preserved : goal.loop-n-preserved
loop-n-preserved c = search (sum_one, rules)

pub returns : goal.returns
returns c = search (sum-end, behind)
