-- One after the other. Assumes nothing.
use Rattle.on_list.proofs.Laws.{exits-list}
use Rattle.on_list.proofs.on_exit_list.Goals as goal

pub returns : goal.returns
returns c = search exits-list
