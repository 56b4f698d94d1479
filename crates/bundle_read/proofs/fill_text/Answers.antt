-- By what is called. Assumes nothing.
use Rattle.bundle_read.proofs.Bundle.{text-filled}
use Rattle.bundle_read.proofs.fill_text.Goals as goal

pub returns : goal.returns
returns c = search text-filled
