-- The first bad verdict of three. Assumes nothing.
use Rattle.bundle_block.proofs.Block.{judged}
use Rattle.bundle_block.proofs.judge_block.Goals as goal

pub returns : goal.returns
returns c = search judged
