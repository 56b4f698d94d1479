-- The loop's invariant: what is found from here is what is found at all. Assumes nothing.
use Rattle.dispatch_look_back.proofs.Laws.{walks, found, further, nothing-found}
use Rattle.dispatch_look_back.proofs.look_back.Goals as goal

pub loop-k-init : goal.loop-k-init
loop-k-init c = search walks

pub returns-then-ends_at : goal.returns-then-ends_at
returns-then-ends_at c = search found

pub loop-k-preserved : goal.loop-k-preserved
loop-k-preserved c = search further

pub returns : goal.returns
returns c = search nothing-found
