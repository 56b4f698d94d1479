-- One after the other.
use native.Mathlib.Omega.{arith}
use Rattle.machine.specs.OnFlow.{on_exit_raw_flow_fence}
use Rattle.state_context.proofs.Commands.{sets, seq}
use Rattle.on_flow.proofs.on_exit_raw_flow_fence.Goals as goal

pub shape_of-captures : goal.shape_of-captures
shape_of-captures c = omega (arith, c.end_opening_fence-r.auto)

pub shape_of-out : goal.shape_of-out
shape_of-out c = omega (arith, c.end_opening_fence-r.auto)

pub returns : goal.returns
unfolding on_exit_raw_flow_fence
returns c = seq c.end_opening_fence-r.ensures (sets c.count_fence.ensures)
