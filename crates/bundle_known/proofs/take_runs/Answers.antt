-- The text blocks, then the event blocks. Assumes nothing.
use Rattle.bundle_block.proofs.Block.{handed}
use Rattle.bundle_known.proofs.Laws.{text-stopped, text-took}
use Rattle.bundle_known.proofs.take_runs.Goals as goal

pub returns-in_err-run : goal.returns-in_err-run
returns-in_err-run c = rw (handed _ c.from_residual.ensures) (search (text-stopped, c.in_err-run.was))

pub returns : goal.returns
returns c = search (text-took, c.in_ok-run.was)
