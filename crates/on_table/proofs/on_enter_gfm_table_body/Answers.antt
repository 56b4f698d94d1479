-- A text alone.
use Rattle.machine.specs.OnTable.{on_enter_gfm_table_body}
use Rattle.state_context.proofs.Commands.{puts}
use Rattle.on_table.proofs.on_enter_gfm_table_body.Goals as goal

pub returns : goal.returns
unfolding on_enter_gfm_table_body
returns c = puts c.push.ensures
