-- The buffers alone change.
use Rattle.state_context.proofs.Laws.{ending-if}
use Rattle.state_context.proofs.line_ending_if_needed.Goals as goal

pub returns : goal.returns
returns c = search ending-if
