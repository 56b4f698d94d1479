-- The part that is lent is the record. Assumes nothing.
use Rattle.event.proofs.Laws.{read_at}
use Rattle.event.proofs.Event.read.Goals as goal

pub returns : goal.returns
returns c = search read_at
