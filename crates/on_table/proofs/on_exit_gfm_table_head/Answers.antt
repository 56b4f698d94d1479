-- One after the other.
use Rattle.machine.specs.OnTable.{on_exit_gfm_table_head}
use Rattle.state_context.proofs.Commands.{sets, seq, puts}
use Rattle.on_table.proofs.on_exit_gfm_table_head.Goals as goal

pub returns : goal.returns
unfolding on_exit_gfm_table_head
returns c = seq (sets c.set_head-behind.ensures) (seq c.line_ending_if_needed-r.ensures (puts c.push.ensures))
