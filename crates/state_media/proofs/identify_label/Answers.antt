-- The newest alone changes.
use Rattle.state_media.proofs.Known.{labelled}
use Rattle.state_media.proofs.identify_label.Goals as goal

pub returns : goal.returns
returns c = search labelled
