-- One after the other.
use Rattle.machine.specs.OnFlow.{on_enter_code_indented}
use Rattle.state_context.proofs.Commands.{sets, seq, puts}
use Rattle.on_flow.proofs.on_enter_code_indented.Goals as goal

pub returns : goal.returns
unfolding on_enter_code_indented
returns c = seq (sets c.set_seen-seen.ensures) (seq c.line_ending_if_needed-r.ensures (puts c.push.ensures))
