-- By the bits.
use Rattle.state_context.proofs.Containers.{tells-tight}
use Rattle.state_context.proofs.is_tight.Goals as goal

pub returns : goal.returns
returns c = search tells-tight
