-- By the digit.
use Rattle.state_context.proofs.Awaited.{tells-seen}
use Rattle.state_context.proofs.has_seen_data.Goals as goal

pub returns : goal.returns
returns c = search tells-seen
