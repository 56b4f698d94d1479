-- What is saved is the start of the one below.
use Rattle.state_buffers.proofs.Captures.{drops, drops-not}
use Rattle.state_buffers.proofs.drop.Goals as goal

pub returns-then-b-eq0 : goal.returns-then-b-eq0
returns-then-b-eq0 c = search drops-not

pub returns : goal.returns
returns c = search drops
