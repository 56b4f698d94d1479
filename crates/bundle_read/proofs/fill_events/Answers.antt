-- By what is called. Assumes nothing.
use Rattle.bundle_read.proofs.Bundle.{events-filled}
use Rattle.bundle_read.proofs.fill_events.Goals as goal

pub returns : goal.returns
returns c = search events-filled
