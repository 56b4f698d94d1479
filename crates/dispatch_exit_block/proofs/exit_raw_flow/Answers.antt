-- By the event just before. Assumes nothing.
use Rattle.dispatch_exit_block.proofs.Laws.{fenced}
use Rattle.dispatch_exit_block.proofs.exit_raw_flow.Goals as goal

pub returns : goal.returns
returns c = fenced c.fence_before-fence.ensures c.on_exit_raw_flow.ensures
