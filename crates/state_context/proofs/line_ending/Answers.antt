-- The buffers alone change.
use Rattle.state_context.proofs.Laws.{ending}
use Rattle.state_context.proofs.line_ending.Goals as goal

pub returns : goal.returns
returns c = search ending
