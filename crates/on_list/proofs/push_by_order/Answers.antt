-- By the list's event. Assumes nothing.
use borrow.Author.Rules.{rules}
use Rattle.on_list.proofs.Laws.{pushes-yes, pushes-no}
use Rattle.on_list.proofs.push_by_order.Goals as goal

pub returns-then-ordered : goal.returns-then-ordered
returns-then-ordered c = pushes-yes (search rules) c.push.ensures

pub returns : goal.returns
returns c = pushes-no (search rules) c.push-2.ensures
