-- Behind all that is held.
use Rattle.state_media.proofs.Stored.{stores-label}
use Rattle.state_media.proofs.store_label.Goals as goal

pub returns : goal.returns
returns c = search stores-label
