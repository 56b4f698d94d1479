-- One after the other. Assumes nothing.
use Rattle.machine.specs.OnList.{on_exit_list_item}
use Rattle.state_context.proofs.Commands.{seq, sets, puts}
use Rattle.on_list.proofs.on_exit_list_item.Goals as goal

pub returns : goal.returns
unfolding on_exit_list_item
returns c = seq (sets c.set_slurp-line.ensures) (seq c.end_line-r.ensures (puts c.push.ensures))
