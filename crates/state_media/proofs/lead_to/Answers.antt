-- It was nowhere.
use Rattle.state_media.proofs.Known.{led}
use Rattle.state_media.proofs.lead_to.Goals as goal

pub returns : goal.returns
returns c = search led
