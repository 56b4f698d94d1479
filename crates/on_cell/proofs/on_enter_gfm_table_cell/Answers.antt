-- By the answer: a capture, or the cell.
use borrow.Author.Rules.{rules}
use Rattle.machine.specs.OnCell.{on_enter_gfm_table_cell}
use Rattle.state_context.proofs.Commands.{begins, whether-no}
use Rattle.on_cell.proofs.Either.{opens-yes, opens-none}
use Rattle.on_cell.proofs.on_enter_gfm_table_cell.Goals as goal

pub returns-then-is_past_columns : goal.returns-then-is_past_columns
unfolding on_enter_gfm_table_cell
returns-then-is_past_columns c = opens-yes c.is_past_columns.ensures (search rules) (begins c.«open».ensures)

pub returns : goal.returns
unfolding on_enter_gfm_table_cell
returns c = opens-none (whether-no c.is_past_columns.ensures (search rules) c.open_cell.ensures)
