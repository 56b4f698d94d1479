-- Both words in turn. Assumes nothing.
use Rattle.signature.proofs.Laws.{turn_is}
use Rattle.signature.proofs.turned.Goals as goal

pub returns : goal.returns
returns c = search turn_is
