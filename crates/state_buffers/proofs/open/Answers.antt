-- Where the table has a place.
use Rattle.state_buffers.proofs.Captures.{opens, opens_not}
use Rattle.state_buffers.proofs.open.Goals as goal

pub returns-then-starts-d : goal.returns-then-starts-d
returns-then-starts-d c = search opens_not

pub returns : goal.returns
returns c = search opens
