-- The one below is bare, and holds nothing.
use Rattle.state_media.proofs.Newest.{closes}
use Rattle.state_media.proofs.close_media.Goals as goal

pub returns : goal.returns
returns c = search closes
