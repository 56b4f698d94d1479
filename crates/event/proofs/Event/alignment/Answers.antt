-- Two bits, by shift and mask. Assumes nothing.
use Rattle.event.proofs.Laws.{masked-alignment, past-extra}
use Rattle.std.proofs.Common.{rules}
use Rattle.event.proofs.Event.alignment.Goals as goal

pub returns-then-column-gt27 : goal.returns-then-column-gt27
returns-then-column-gt27 c = search (past-extra, rules)

pub returns : goal.returns
returns c = search masked-alignment
