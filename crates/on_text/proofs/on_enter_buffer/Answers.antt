-- One capture.
use Rattle.machine.specs.OnText.{on_enter_buffer}
use Rattle.on_text.proofs.on_enter_buffer.Goals as goal

pub returns : goal.returns
unfolding on_enter_buffer
returns c = c.«open».ensures
