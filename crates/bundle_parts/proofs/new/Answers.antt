-- Nothing is held. Assumes nothing.
use Rattle.bundle_parts.proofs.Calls.{new-stands}
use Rattle.bundle_parts.proofs.new.Goals as goal

pub returns : goal.returns
returns c = search new-stands
