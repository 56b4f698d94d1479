-- The buffers alone change.
use Rattle.state_context.proofs.Laws.{pushing}
use Rattle.state_context.proofs.push.Goals as goal

pub returns : goal.returns
returns c = search pushing
