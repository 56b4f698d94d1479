-- One digit.
use Rattle.state_context.proofs.Awaited.{first-yes, first-no}
use Rattle.state_context.proofs.set_first.Goals as goal

pub returns-then-x : goal.returns-then-x
returns-then-x c = search first-yes

pub returns : goal.returns
returns c = search first-no
