-- The slice alone.
use Rattle.machine.specs.OnText.{on_exit_data}
use Rattle.on_text.proofs.on_exit_data.Goals as goal

pub returns : goal.returns
unfolding on_exit_data
returns c = c.push_slice.ensures
