-- One after the other.
use native.Mathlib.Omega.{arith}
use Rattle.machine.specs.OnHeading.{on_exit_heading_atx}
use Rattle.state_context.proofs.Commands.{seq, puts, sets}
use Rattle.on_heading.proofs.on_exit_heading_atx.Goals as goal

pub shape_of-captures : goal.shape_of-captures
shape_of-captures c = omega (arith, c.push-begun.auto, c.push_rank-ranked.auto, c.push-r.auto)

pub shape_of-out : goal.shape_of-out
shape_of-out c = omega (arith, c.push-begun.auto, c.push_rank-ranked.auto, c.push-r.auto)

pub returns : goal.returns
unfolding on_exit_heading_atx
returns c = seq (puts c.push-begun.ensures) (seq c.push_rank-ranked.ensures (seq (puts c.push-r.ensures) (sets c.forget_rank.ensures)))
