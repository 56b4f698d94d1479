-- The buffers alone change.
use Rattle.machine.specs.OnFlow.{on_exit_raw_flow_fence_info}
use Rattle.state_context.proofs.Slices.{resumes}
use Rattle.on_flow.proofs.on_exit_raw_flow_fence_info.Goals as goal

pub returns : goal.returns
unfolding on_exit_raw_flow_fence_info
returns c = resumes c.resume-r.ensures
