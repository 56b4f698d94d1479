-- One after the other.
use native.Mathlib.Omega.{arith}
use Rattle.state_context.proofs.Commands.{seq, puts}
use Rattle.on_cell.proofs.open_cell.Goals as goal

pub shape_of-captures : goal.shape_of-captures
shape_of-captures c = omega (arith, c.line_ending_if_needed-line.auto, c.push_cell_name-name.auto, c.push_alignment-r.auto, c.push.auto)

pub shape_of-out : goal.shape_of-out
shape_of-out c = omega (arith, c.line_ending_if_needed-line.auto, c.push_cell_name-name.auto, c.push_alignment-r.auto, c.push.auto)

pub returns : goal.returns
returns c = seq c.line_ending_if_needed-line.ensures (seq c.push_cell_name-name.ensures (seq c.push_alignment-r.ensures (puts c.push.ensures)))
