-- Each turn is one of the definition's. Assumes nothing.
use Rattle.check_labels.proofs.Steps.{turn-depth, own_on, own-found, own_out, own-end}
use Rattle.check_labels.proofs.own_part.Goals as goal

pub loop-i-preserved : goal.loop-i-preserved
loop-i-preserved c = (search turn-depth, search own_on)

pub returns-in-Own : goal.returns-in-Own
returns-in-Own c = search own-found

pub returns-in-Out : goal.returns-in-Out
returns-in-Out c = search own_out

pub returns : goal.returns
returns c = search own-end
