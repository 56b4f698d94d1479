-- Behind all that is held.
use Rattle.state_media.proofs.Stored.{stores-title}
use Rattle.state_media.proofs.store_title.Goals as goal

pub returns : goal.returns
returns c = search stores-title
