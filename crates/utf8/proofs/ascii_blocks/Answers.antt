-- A block of ASCII bytes goes on the run. Assumes nothing.
use Rattle.utf8.proofs.Walk.{block}
use Rattle.utf8.proofs.ascii_blocks.Goals as goal

pub loop-at-preserved : goal.loop-at-preserved
loop-at-preserved c = block _ _ _ c.loop-at.invariant _ c.block_bits.ensures c.if-block_bits-gt127.false c.if-s-at-lt16.false
