-- By the digit.
use Rattle.state_context.proofs.Awaited.{tells-marker}
use Rattle.state_context.proofs.is_first_marker.Goals as goal

pub returns : goal.returns
returns c = search tells-marker
