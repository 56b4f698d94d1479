-- The buffers alone change.
use Rattle.state_context.proofs.Slices.{ends}
use Rattle.state_context.proofs.drop.Goals as goal

pub returns : goal.returns
returns c = ends c.drop-r.ensures
