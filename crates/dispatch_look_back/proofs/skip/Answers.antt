-- Into an element, or out of one if there is one. Assumes nothing.
use Rattle.dispatch_look_back.proofs.Laws.{deeper, shallower}
use Rattle.dispatch_look_back.proofs.skip.Goals as goal

pub returns-then-exit : goal.returns-then-exit
returns-then-exit c = search deeper

pub returns : goal.returns
returns c = search shallower
