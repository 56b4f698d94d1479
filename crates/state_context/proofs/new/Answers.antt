-- The relation holds before the first event.
use Rattle.state_context.proofs.Start.{begins-so}
use Rattle.state_context.proofs.new.Goals as goal

pub returns : goal.returns
returns c = search begins-so
