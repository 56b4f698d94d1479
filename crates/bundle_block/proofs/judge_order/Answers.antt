-- By what is called. Assumes nothing.
use Rattle.bundle_block.proofs.Block.{order-judged}
use Rattle.bundle_block.proofs.judge_order.Goals as goal

pub returns : goal.returns
returns c = search order-judged
