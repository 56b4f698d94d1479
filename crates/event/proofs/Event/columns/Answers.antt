-- The low 8 bits, by mask. Assumes nothing.
use Rattle.event.proofs.Laws.{masked-columns}
use Rattle.event.proofs.Event.columns.Goals as goal

pub returns : goal.returns
returns c = search masked-columns
