-- None so far, one more, or all.
use Rattle.regions.proofs.Moves.{copying-none, copying-more, copying-end}
use Rattle.regions.proofs.copy.Goals as goal

pub loop-i-init : goal.loop-i-init
loop-i-init c = search copying-none

pub loop-i-preserved : goal.loop-i-preserved
loop-i-preserved c = search copying-more

pub returns : goal.returns
returns c = search copying-end
