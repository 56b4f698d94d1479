-- By the digit.
use Rattle.state_context.proofs.Fences.{tells-once}
use Rattle.state_context.proofs.is_fenced_once.Goals as goal

pub returns : goal.returns
returns c = search tells-once
