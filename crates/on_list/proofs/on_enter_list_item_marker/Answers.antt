-- One after the other. Assumes nothing.
use native.Mathlib.Omega.{arith}
use Rattle.machine.specs.OnList.{on_enter_list_item_marker}
use Rattle.state_context.proofs.Commands.{seq, sets, puts}
use Rattle.on_list.proofs.on_enter_list_item_marker.Goals as goal

pub shape_of-captures : goal.shape_of-captures
shape_of-captures c = omega (arith, c.end_tag-list.auto, c.line_ending_if_needed-line.auto, c.push-r.auto)

pub shape_of-out : goal.shape_of-out
shape_of-out c = omega (arith, c.end_tag-list.auto, c.line_ending_if_needed-line.auto, c.push-r.auto)

pub returns : goal.returns
unfolding on_enter_list_item_marker
returns c = seq c.end_tag-list.ensures (seq c.line_ending_if_needed-line.ensures (seq (puts c.push-r.ensures) (sets c.set_first.ensures)))
