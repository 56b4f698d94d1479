-- No use, a use that does not hold, or one that does. Assumes nothing.
use Rattle.check_labels.proofs.Steps.{first_more, first_found, first-end}
use Rattle.check_labels.proofs.Uses.{use-more}
use Rattle.check_labels.proofs.first.Goals as goal

pub loop-i-preserved-then-not-is_use : goal.loop-i-preserved-then-not-is_use
loop-i-preserved-then-not-is_use c = search use-more

pub loop-i-preserved : goal.loop-i-preserved
loop-i-preserved c = search first_more

pub returns-then-not-holds : goal.returns-then-not-holds
returns-then-not-holds c = search first_found

pub returns : goal.returns
returns c = search first-end
