-- By the digit.
use Rattle.state_context.proofs.Fences.{tells_first}
use Rattle.state_context.proofs.is_first_fence.Goals as goal

pub returns : goal.returns
returns c = search tells_first
