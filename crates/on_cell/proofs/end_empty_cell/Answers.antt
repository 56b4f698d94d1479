-- By the flag.
use borrow.Author.Rules.{rules}
use Rattle.on_cell.proofs.Empty.{ends-head, ends-body}
use Rattle.on_cell.proofs.end_empty_cell.Goals as goal

pub returns-then-is_head : goal.returns-then-is_head
returns-then-is_head c = ends-head c.is_head.ensures (search rules) c.push.ensures

pub returns : goal.returns
returns c = ends-body c.is_head.ensures (search rules) c.push-2.ensures
