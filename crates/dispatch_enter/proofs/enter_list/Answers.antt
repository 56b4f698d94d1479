-- By the event's name and its extra field. Assumes nothing.
use Rattle.dispatch_enter.proofs.Laws.{lists}
use Rattle.dispatch_enter.proofs.enter_list.Goals as goal

pub returns : goal.returns
returns c = lists c.is_loose-loose.ensures c.on_enter_list.ensures
