-- The buffers alone change.
use Rattle.state_context.proofs.Slices.{begins}
use Rattle.state_context.proofs.open.Goals as goal

pub returns : goal.returns
returns c = begins c.open-r.ensures
