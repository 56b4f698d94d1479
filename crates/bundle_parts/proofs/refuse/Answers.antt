-- Both buffers are cleared. Assumes nothing.
use Rattle.bundle_parts.proofs.Taking.{refused}
use Rattle.bundle_parts.proofs.refuse.Goals as goal

pub returns : goal.returns
returns c = search refused
