-- By the answer. Assumes nothing.
use borrow.Author.Rules.{rules}
use Rattle.state_context.proofs.Commands.{idle, puts, whether-yes, whether-no}
use Rattle.on_list.proofs.end_tag.Goals as goal

pub returns-then-is_first_marker : goal.returns-then-is_first_marker
returns-then-is_first_marker c = whether-yes c.is_first_marker.ensures (search rules) (puts c.push.ensures)

pub returns : goal.returns
returns c = whether-no c.is_first_marker.ensures (search rules) idle
