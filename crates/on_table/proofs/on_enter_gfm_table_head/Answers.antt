-- One after the other.
use native.Mathlib.Omega.{arith}
use Rattle.machine.specs.OnTable.{on_enter_gfm_table_head}
use Rattle.state_context.proofs.Commands.{sets, seq, puts}
use Rattle.on_table.proofs.on_enter_gfm_table_head.Goals as goal

pub shape_of-captures : goal.shape_of-captures
shape_of-captures c = omega (arith, c.line_ending_if_needed-line.auto, c.push-r.auto)

pub returns : goal.returns
unfolding on_enter_gfm_table_head
returns c = seq c.line_ending_if_needed-line.ensures (seq (puts c.push-r.ensures) (sets c.set_head.ensures))
