-- By the answers.
use borrow.Author.Rules.{rules}
use native.Mathlib.Omega.{arith}
use Rattle.state_context.proofs.Commands.{idle, sets, seq, puts, whether-yes, whether-no}
use Rattle.on_flow.proofs.end_opening_fence.Goals as goal

pub shape_of-captures-then-is_first_fence : goal.shape_of-captures-then-is_first_fence
shape_of-captures-then-is_first_fence c = omega (arith, c.push-r.auto)

pub shape_of-out-then-is_first_fence : goal.shape_of-out-then-is_first_fence
shape_of-out-then-is_first_fence c = omega (arith, c.push-r.auto)

pub returns-then-is_first_fence : goal.returns-then-is_first_fence
returns-then-is_first_fence c = whether-yes c.is_first_fence.ensures (search rules) (seq (puts c.push-r.ensures) (sets c.set_slurp.ensures))

pub returns : goal.returns
returns c = whether-no c.is_first_fence.ensures (search rules) idle
