-- By the count.
use Rattle.state_context.proofs.Containers.{in-container}
use Rattle.state_context.proofs.is_in_container.Goals as goal

pub returns : goal.returns
returns c = search in-container
