-- Every field at its place. Assumes nothing.
use Rattle.event.proofs.Laws.{decoded}
use Rattle.event.proofs.Event.decode.Goals as goal

pub returns : goal.returns
returns c = search decoded
