-- By what is called. Assumes nothing.
use Rattle.bundle_block.proofs.Block.{check-judged}
use Rattle.bundle_block.proofs.judge_check.Goals as goal

pub returns : goal.returns
returns c = search check-judged
