-- One after the other. Assumes nothing.
use native.Mathlib.Omega.{arith}
use Rattle.machine.specs.OnList.{on_enter_list}
use Rattle.state_context.proofs.Commands.{any, narrow, seq, sets}
use Rattle.on_list.proofs.Laws.{opens-container, by_order}
use Rattle.on_list.proofs.on_enter_list.Goals as goal

pub shape_of-captures : goal.shape_of-captures
shape_of-captures c = omega (arith, c.line_ending_if_needed-line.auto, c.push_by_order-r.auto)

pub shape_of-out : goal.shape_of-out
shape_of-out c = omega (arith, c.line_ending_if_needed-line.auto, c.push_by_order-r.auto)

pub returns : goal.returns
unfolding on_enter_list
returns c = seq (opens-container _ c.open_container-tight.ensures) (seq (any c.line_ending_if_needed-line.ensures) (seq (narrow (λ t v. v.ordered) (by_order c.push_by_order-r.ensures)) (sets c.set_first.ensures)))
