-- One capture.
use Rattle.machine.specs.OnText.{on_exit_drop}
use Rattle.on_text.proofs.on_exit_drop.Goals as goal

pub returns : goal.returns
unfolding on_exit_drop
returns c = c.drop.ensures
