-- By the flag.
use borrow.Author.Rules.{rules}
use Rattle.state_context.proofs.Commands.{puts, whether-yes, whether-no}
use Rattle.on_cell.proofs.close_cell.Goals as goal

pub returns-then-is_head : goal.returns-then-is_head
returns-then-is_head c = whether-yes c.is_head.ensures (search rules) (puts c.push.ensures)

pub returns : goal.returns
returns c = whether-no c.is_head.ensures (search rules) (puts c.push-2.ensures)
