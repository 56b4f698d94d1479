-- By the answer. Assumes nothing.
use borrow.Author.Rules.{rules}
use Rattle.machine.specs.OnList.{on_exit_list_item_value}
use Rattle.state_context.proofs.Commands.{idle, told, whether-yes, whether-no}
use Rattle.on_list.proofs.on_exit_list_item_value.Goals as goal

pub returns-then-is_first_marker : goal.returns-then-is_first_marker
unfolding on_exit_list_item_value
returns-then-is_first_marker c = whether-yes (told c.is_first_marker.ensures) (search rules) c.push_start.ensures

pub returns : goal.returns
unfolding on_exit_list_item_value
returns c = whether-no (told c.is_first_marker.ensures) (search rules) idle
