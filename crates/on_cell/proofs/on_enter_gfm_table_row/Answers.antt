-- One after the other.
use Rattle.machine.specs.OnCell.{on_enter_gfm_table_row}
use Rattle.state_context.proofs.Commands.{seq, puts}
use Rattle.on_cell.proofs.on_enter_gfm_table_row.Goals as goal

pub returns : goal.returns
unfolding on_enter_gfm_table_row
returns c = seq c.line_ending_if_needed-r.ensures (puts c.push.ensures)
