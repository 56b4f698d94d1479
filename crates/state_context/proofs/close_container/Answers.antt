-- By the bits.
use Rattle.state_context.proofs.Containers.{closes-container}
use Rattle.state_context.proofs.close_container.Goals as goal

pub returns : goal.returns
returns c = search closes-container
