-- One digit.
use Rattle.state_context.proofs.Awaited.{unmarked}
use Rattle.state_context.proofs.forget_marker.Goals as goal

pub returns : goal.returns
returns c = search unmarked
