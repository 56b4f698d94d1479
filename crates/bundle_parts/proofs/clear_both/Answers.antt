-- One after the other. Assumes nothing.
use Rattle.bundle_parts.proofs.Taking.{wiped}
use Rattle.bundle_parts.proofs.clear_both.Goals as goal

pub returns : goal.returns
returns c = search wiped
