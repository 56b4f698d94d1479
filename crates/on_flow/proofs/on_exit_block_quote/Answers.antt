-- One after the other.
use Rattle.machine.specs.OnFlow.{on_exit_block_quote}
use Rattle.state_context.proofs.Commands.{sets, seq, puts}
use Rattle.on_flow.proofs.on_exit_block_quote.Goals as goal

pub returns : goal.returns
unfolding on_exit_block_quote
returns c = seq (sets c.close_container-loose.ensures) (seq c.line_ending_if_needed-line.ensures (seq (sets c.set_slurp-r.ensures) (puts c.push.ensures)))
