-- The buffers alone change.
use Rattle.machine.specs.OnHeading.{on_exit_heading_atx_text}
use Rattle.state_context.proofs.Slices.{resumes}
use Rattle.on_heading.proofs.on_exit_heading_atx_text.Goals as goal

pub returns : goal.returns
unfolding on_exit_heading_atx_text
returns c = resumes c.resume-r.ensures
