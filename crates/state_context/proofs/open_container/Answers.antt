-- By the bits.
use Rattle.state_context.proofs.Containers.{widens}
use Rattle.state_context.proofs.open_container.Goals as goal

pub returns : goal.returns
returns c = search widens
