-- One after the other.
use native.Mathlib.Omega.{arith}
use Rattle.machine.specs.OnFlow.{on_exit_raw_flow}
use Rattle.state_context.proofs.Commands.{any, sets, seq, puts}
use Rattle.on_flow.proofs.on_exit_raw_flow.Goals as goal

pub shape_of-captures : goal.shape_of-captures
shape_of-captures c = omega (arith, c.push-tag.auto, c.end_open_code-open.auto, c.end_seen_data-line.auto, c.end_missing_fence-fence.auto)

pub shape_of-out : goal.shape_of-out
shape_of-out c = omega (arith, c.push-tag.auto, c.end_open_code-open.auto, c.end_seen_data-line.auto, c.end_missing_fence-fence.auto)

pub returns : goal.returns
unfolding on_exit_raw_flow
returns c = seq c.end_open_code-open.ensures (seq (any c.end_seen_data-line.ensures) (seq (sets c.set_seen-unseen.ensures) (seq (puts c.push-tag.ensures) (seq (any c.end_missing_fence-fence.ensures) (seq (sets c.end_fences-r.ensures) (sets c.set_slurp.ensures))))))
