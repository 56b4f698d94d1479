-- One after the other.
use Rattle.machine.specs.OnFlow.{on_enter_block_quote}
use Rattle.state_context.proofs.Commands.{sets, seq, puts}
use Rattle.on_flow.proofs.on_enter_block_quote.Goals as goal

pub returns : goal.returns
unfolding on_enter_block_quote
returns c = seq (sets c.open_container-tight.ensures) (seq c.line_ending_if_needed-r.ensures (puts c.push.ensures))
