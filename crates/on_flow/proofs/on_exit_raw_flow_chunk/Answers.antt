-- One after the other.
use Rattle.machine.specs.OnFlow.{on_exit_raw_flow_chunk}
use Rattle.state_context.proofs.Commands.{seq, sets}
use Rattle.on_flow.proofs.on_exit_raw_flow_chunk.Goals as goal

pub returns : goal.returns
unfolding on_exit_raw_flow_chunk
returns c = seq (sets c.set_seen-r.ensures) c.push_chunk.ensures
