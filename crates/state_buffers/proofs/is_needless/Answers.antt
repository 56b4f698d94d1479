-- By what the newest buffer ends in, unless it is wanted always.
use Rattle.state_buffers.proofs.Lines.{needless-at-start}
use Rattle.state_buffers.proofs.is_needless.Goals as goal

pub returns : goal.returns
returns c = search needless-at-start
