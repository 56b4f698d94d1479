-- By the run. Assumes nothing.
use Rattle.bundle_block.proofs.Block.{handed}
use Rattle.bundle_known.proofs.Laws.{events-stopped, events-took}
use Rattle.bundle_known.proofs.take_events.Goals as goal

pub returns-in_err-run : goal.returns-in_err-run
returns-in_err-run c = rw (handed _ c.from_residual.ensures) (search (events-stopped, c.in_err-run.was))

pub returns : goal.returns
returns c = search (events-took, c.in_ok-run.was)
