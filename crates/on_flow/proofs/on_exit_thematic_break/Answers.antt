-- One after the other.
use Rattle.machine.specs.OnFlow.{on_exit_thematic_break}
use Rattle.state_context.proofs.Commands.{seq, puts}
use Rattle.on_flow.proofs.on_exit_thematic_break.Goals as goal

pub returns : goal.returns
unfolding on_exit_thematic_break
returns c = search (seq, puts)
