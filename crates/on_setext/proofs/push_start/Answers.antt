-- One after the other.
use native.Mathlib.Omega.{arith}
use Rattle.state_context.proofs.Commands.{any, seq, puts}
use Rattle.on_setext.proofs.push_start.Goals as goal

pub shape_of-captures : goal.shape_of-captures
shape_of-captures c = omega (arith, c.push.auto, c.push_rank-r.auto, c.push-open.auto, c.line_ending_if_needed-line.auto)

pub shape_of-out : goal.shape_of-out
shape_of-out c = omega (arith, c.push.auto, c.push_rank-r.auto, c.push-open.auto, c.line_ending_if_needed-line.auto)

pub returns : goal.returns
returns c = seq (any c.line_ending_if_needed-line.ensures) (seq (puts c.push-open.ensures) (seq c.push_rank-r.ensures (puts c.push.ensures)))
