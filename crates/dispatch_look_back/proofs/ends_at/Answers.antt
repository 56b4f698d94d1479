-- As it is defined. Assumes nothing.
use Rattle.dispatch_look_back.proofs.Laws.{ending}
use Rattle.dispatch_look_back.proofs.ends_at.Goals as goal

pub returns : goal.returns
returns c = search ending
