-- All others are bare.
use Rattle.state_media.proofs.Newest.{opens}
use Rattle.state_media.proofs.open_media.Goals as goal

pub returns : goal.returns
returns c = search opens
