-- Behind all that is held.
use Rattle.state_media.proofs.Stored.{stores-destination}
use Rattle.state_media.proofs.store_destination.Goals as goal

pub returns : goal.returns
returns c = search stores-destination
