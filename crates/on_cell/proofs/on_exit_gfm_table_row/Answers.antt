-- The missing cells, and one after the other.
use native.Mathlib.Omega.{arith}
use Rattle.machine.specs.OnCell.{on_exit_gfm_table_row}
use Rattle.state_context.proofs.Commands.{sets, seq, puts}
use Rattle.on_cell.proofs.on_exit_gfm_table_row.Goals as goal

pub shape_of-captures : goal.shape_of-captures
shape_of-captures c = omega (arith, c.push_missing_cells-whole.auto, c.line_ending_if_needed-r.auto, c.push.auto)

pub shape_of-out : goal.shape_of-out
shape_of-out c = omega (arith, c.push_missing_cells-whole.auto, c.line_ending_if_needed-r.auto, c.push.auto)

pub returns : goal.returns
unfolding on_exit_gfm_table_row
returns c = seq c.push_missing_cells-whole.ensures (seq (sets c.first_column-first.ensures) (seq c.line_ending_if_needed-r.ensures (puts c.push.ensures)))
