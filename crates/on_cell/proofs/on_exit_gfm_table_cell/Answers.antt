-- By the answer: a capture off, or the cell; then the column.
use borrow.Author.Rules.{rules}
use Rattle.machine.specs.OnCell.{on_exit_gfm_table_cell}
use Rattle.state_context.proofs.Commands.{sets, whether-no}
use Rattle.state_context.proofs.Slices.{takes-seq}
use Rattle.on_cell.proofs.Either.{ends, takes-yes, takes_none}
use Rattle.on_cell.proofs.on_exit_gfm_table_cell.Goals as goal

pub returns-then-is_past_columns : goal.returns-then-is_past_columns
unfolding on_exit_gfm_table_cell
returns-then-is_past_columns c = takes-seq (takes-yes c.is_past_columns.ensures (search rules) (ends c.drop-r.ensures)) (sets c.next_column.ensures)

pub returns : goal.returns
unfolding on_exit_gfm_table_cell
returns c = takes-seq (takes_none (whether-no c.is_past_columns.ensures (search rules) c.close_cell-r.ensures)) (sets c.next_column-2.ensures)
