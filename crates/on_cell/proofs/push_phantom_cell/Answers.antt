-- The cell, where it is not past the columns.
use native.Mathlib.Omega.{arith}
use Rattle.state_context.proofs.Commands.{seq}
use Rattle.on_cell.proofs.Cells.{adds}
use Rattle.on_cell.proofs.push_phantom_cell.Goals as goal

pub shape_of-captures : goal.shape_of-captures
shape_of-captures c = omega (arith, c.line_ending_if_needed-line.auto, c.push_cell_name-name.auto, c.push_alignment-aligned.auto, c.end_empty_cell-r.auto)

pub shape_of-out : goal.shape_of-out
shape_of-out c = omega (arith, c.line_ending_if_needed-line.auto, c.push_cell_name-name.auto, c.push_alignment-aligned.auto, c.end_empty_cell-r.auto)

pub returns : goal.returns
returns c = adds (seq c.line_ending_if_needed-line.ensures (seq c.push_cell_name-name.ensures (seq c.push_alignment-aligned.ensures c.end_empty_cell-r.ensures))) c.next_column.ensures
