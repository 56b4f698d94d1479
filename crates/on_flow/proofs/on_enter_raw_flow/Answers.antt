-- One after the other.
use native.Mathlib.Omega.{arith}
use Rattle.machine.specs.OnFlow.{on_enter_raw_flow}
use Rattle.state_context.proofs.Commands.{sets, seq, puts}
use Rattle.on_flow.proofs.on_enter_raw_flow.Goals as goal

pub shape_of-captures : goal.shape_of-captures
shape_of-captures c = omega (arith, c.push-r.auto, c.line_ending_if_needed-line.auto)

pub shape_of-out : goal.shape_of-out
shape_of-out c = omega (arith, c.push-r.auto, c.line_ending_if_needed-line.auto)

pub returns : goal.returns
unfolding on_enter_raw_flow
returns c = seq (sets c.set_seen-seen.ensures) (seq c.line_ending_if_needed-line.ensures (seq (puts c.push-r.ensures) (sets c.open_fences.ensures)))
