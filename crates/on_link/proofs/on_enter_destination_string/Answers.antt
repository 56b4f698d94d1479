-- The capture first, then the flag. Assumes nothing.
use Rattle.machine.specs.OnLink.{on_enter_resource_destination_string}
use Rattle.state_context.proofs.Renewed.{begins-first}
use Rattle.on_link.proofs.on_enter_destination_string.Goals as goal

pub returns : goal.returns
unfolding on_enter_resource_destination_string
returns c = search begins-first
