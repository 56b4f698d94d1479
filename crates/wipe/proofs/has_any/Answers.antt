-- A byte more, and no byte left. Assumes nothing.
use Rattle.wipe.proofs.Laws.{set_more, set-end}
use Rattle.wipe.proofs.has_any.Goals as goal

pub loop-b-preserved : goal.loop-b-preserved
loop-b-preserved c = search set_more

pub returns : goal.returns
returns c = search set-end
