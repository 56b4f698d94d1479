-- By the answers. Assumes nothing.
use borrow.Author.Rules.{rules}
use borrow.Author.Tests.{eq-eqb, ne_eqb}
use Rattle.state_context.proofs.Commands.{any, idle, whether-yes, whether-no}
use Rattle.on_list.proofs.Laws.{tells-empty}
use Rattle.on_list.proofs.end_line.Goals as goal

pub returns-then-is_tight_paragraph : goal.returns-then-is_tight_paragraph
returns-then-is_tight_paragraph c = whether-yes c.is_tight_paragraph.ensures (search rules) idle

pub returns-then-behind-eq-LIST_ITEM_PREFIX : goal.returns-then-behind-eq-LIST_ITEM_PREFIX
returns-then-behind-eq-LIST_ITEM_PREFIX c = whether-no c.is_tight_paragraph.ensures (search rules) (whether-yes tells-empty (search (eq-eqb, rules)) idle)

pub returns : goal.returns
returns c = whether-no c.is_tight_paragraph.ensures (search rules) (whether-no tells-empty (search (ne_eqb, rules)) (any c.line_ending_if_needed.ensures))
