-- By the look back from the event. Assumes nothing.
use Rattle.dispatch_exit_block.proofs.Laws.{looked}
use Rattle.dispatch_exit_block.proofs.exit_list_item.Goals as goal

pub returns : goal.returns
returns c = looked c.look_back-behind.ensures c.on_exit_list_item.ensures
