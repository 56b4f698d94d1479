-- The newest alone changes.
use Rattle.state_media.proofs.Known.{referred}
use Rattle.state_media.proofs.identify_reference.Goals as goal

pub returns : goal.returns
returns c = search referred
