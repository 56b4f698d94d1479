-- By the digit.
use Rattle.state_context.proofs.Fences.{tells-missing}
use Rattle.state_context.proofs.is_fence_missing.Goals as goal

pub returns : goal.returns
returns c = search tells-missing
