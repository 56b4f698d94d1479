-- All that is left, without what is no use. Assumes nothing.
use Rattle.check_labels.proofs.Steps.{first-start, first-end}
use Rattle.check_labels.proofs.Uses.{use-more}
use Rattle.check_labels.proofs.check_labels.Goals as goal

pub loop-i-init : goal.loop-i-init
loop-i-init c = search first-start

pub loop-i-preserved : goal.loop-i-preserved
loop-i-preserved c = search use-more

pub returns : goal.returns
returns c = search first-end
