-- One more block, or the rest. Assumes nothing.
use Rattle.lent.proofs.Writing.{step, last, by}
use Rattle.encode.proofs.Laws.{block_more, block_last}
use Rattle.encode.proofs.encode.Goals as goal

pub loop-block-preserved : goal.loop-block-preserved
loop-block-preserved c = search (step, block_more)

pub returns : goal.returns
returns c = search (last, by, block_last)
