-- By the name of the newest. Assumes nothing.
use Rattle.dispatch_look_back.proofs.Laws.{fence}
use Rattle.dispatch_look_back.proofs.fence_before.Goals as goal

pub returns : goal.returns
returns c = search fence
