-- None so far, what a block more holds, and the last. Assumes nothing.
use Rattle.bundle_run.proofs.Run.{held_none, held-step, held-end}
use Rattle.std.proofs.Common.{rules}
use Rattle.bundle_run.proofs.copy_run.Goals as goal

pub loop-i-init : goal.loop-i-init
loop-i-init c = search (held_none, rules)

pub loop-i-preserved : goal.loop-i-preserved
loop-i-preserved c = search (held-step, rules)

pub returns : goal.returns
returns c = search held-end
