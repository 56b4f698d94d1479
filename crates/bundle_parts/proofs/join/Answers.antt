-- The rest waits, or is a block with what follows. Assumes nothing.
use Rattle.bundle_parts.proofs.Taking.{join-waits, join_goes}
use Rattle.bundle_parts.proofs.join.Goals as goal

pub returns-then-end-lt-BLOCK : goal.returns-then-end-lt-BLOCK
returns-then-end-lt-BLOCK c = search join-waits

pub returns : goal.returns
returns c = search join_goes
