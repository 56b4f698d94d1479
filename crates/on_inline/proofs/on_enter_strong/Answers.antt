-- The tag alone.
use Rattle.machine.specs.OnInline.{on_enter_strong}
use Rattle.state_context.proofs.Commands.{tag_of}
use Rattle.on_inline.proofs.on_enter_strong.Goals as goal

pub returns : goal.returns
unfolding on_enter_strong
returns c = search tag_of
