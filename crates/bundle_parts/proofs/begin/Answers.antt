-- Cleared, unless block 0 is there. Assumes nothing.
use Rattle.bundle_parts.proofs.Taking.{cleared}
use Rattle.bundle_parts.proofs.begin.Goals as goal

pub returns : goal.returns
returns c = search cleared
