-- One after the other.
use Rattle.machine.specs.OnTable.{on_exit_gfm_table}
use Rattle.state_context.proofs.Commands.{sets, seq, puts}
use Rattle.on_table.proofs.on_exit_gfm_table.Goals as goal

pub returns : goal.returns
unfolding on_exit_gfm_table
returns c = seq (sets c.close_table-outside.ensures) (seq c.line_ending_if_needed-r.ensures (puts c.push.ensures))
