-- One after the other; the capture last.
use Rattle.machine.specs.OnInline.{on_enter_raw_text}
use Rattle.state_context.proofs.Commands.{tag_of, sets, begins, opens-last}
use Rattle.on_inline.proofs.on_enter_raw_text.Goals as goal

pub returns : goal.returns
unfolding on_enter_raw_text
returns c = opens-last (sets c.set_raw-raw.ensures) (opens-last (tag_of c.push_tag-r.ensures) (begins c.«open».ensures))
