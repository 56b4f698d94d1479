-- By what the read answers. Assumes nothing.
use Rattle.notepage.proofs.Laws.{turned_none}
use Rattle.notepage.proofs.read_some.Goals as goal

pub returns-in-Err : goal.returns-in-Err
returns-in-Err g c = search turned_none
