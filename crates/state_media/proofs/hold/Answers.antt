-- Where nothing is held.
use Rattle.state_media.proofs.Stored.{holds}
use Rattle.state_media.proofs.hold.Goals as goal

pub returns : goal.returns
returns c = search holds
