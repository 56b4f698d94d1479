-- One after the other.
use native.Mathlib.Omega.{arith}
use Rattle.state_context.proofs.Commands.{seq, puts}
use Rattle.on_setext.proofs.push_end.Goals as goal

pub shape_of-captures : goal.shape_of-captures
shape_of-captures c = omega (arith, c.push.auto, c.push_rank-r.auto, c.push-close.auto)

pub shape_of-out : goal.shape_of-out
shape_of-out c = omega (arith, c.push.auto, c.push_rank-r.auto, c.push-close.auto)

pub returns : goal.returns
returns c = seq (puts c.push-close.ensures) (seq c.push_rank-r.ensures (puts c.push.ensures))
