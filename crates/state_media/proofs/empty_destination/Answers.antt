-- A piece of no length.
use Rattle.state_media.proofs.Known.{emptied}
use Rattle.state_media.proofs.empty_destination.Goals as goal

pub returns : goal.returns
returns c = search emptied
