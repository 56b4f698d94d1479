-- No medium holds a byte.
use Rattle.state_media.proofs.Stored.{releases}
use Rattle.state_media.proofs.release.Goals as goal

pub returns : goal.returns
returns c = search releases
