-- One after the other; the capture first.
use Rattle.machine.specs.OnInline.{on_exit_raw_text}
use Rattle.state_context.proofs.Commands.{seq, sets, tag_of}
use Rattle.state_context.proofs.Slices.{takes-seq}
use Rattle.on_inline.proofs.on_exit_raw_text.Goals as goal

pub returns : goal.returns
unfolding on_exit_raw_text
returns c = takes-seq c.resume_code-code.ensures (seq (sets c.set_raw-r.ensures) (tag_of c.push_tag.ensures))
