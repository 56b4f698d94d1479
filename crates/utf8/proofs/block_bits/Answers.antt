-- A byte more, and the whole block. Assumes nothing.
use Rattle.utf8.proofs.Walk.{bits-more, bits-end}
use Rattle.utf8.proofs.block_bits.Goals as goal

pub loop-b-preserved : goal.loop-b-preserved
loop-b-preserved c = search bits-more

pub returns : goal.returns
returns c = search bits-end
