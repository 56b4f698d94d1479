-- One after the other.
use Rattle.machine.specs.OnTable.{on_enter_gfm_table}
use Rattle.state_context.proofs.Commands.{any, seq, puts}
use Rattle.on_table.proofs.on_enter_gfm_table.Goals as goal

pub returns : goal.returns
unfolding on_enter_gfm_table
returns c = seq (c.open_table-inside.ensures.sets _ _) (seq (any c.line_ending_if_needed-r.ensures) (puts c.push.ensures))
