-- One after the other.
use Rattle.machine.specs.OnTable.{on_exit_gfm_table_body}
use Rattle.state_context.proofs.Commands.{seq, puts}
use Rattle.on_table.proofs.on_exit_gfm_table_body.Goals as goal

pub returns : goal.returns
unfolding on_exit_gfm_table_body
returns c = seq c.line_ending_if_needed-r.ensures (puts c.push.ensures)
