-- By the answer, then one after the other.
use borrow.Author.Rules.{rules}
use native.Mathlib.Omega.{arith}
use Rattle.machine.specs.OnHeading.{on_exit_heading_atx_sequence}
use Rattle.state_context.proofs.Commands.{any, idle, seq, puts, told, whether-yes, whether-no}
use Rattle.on_heading.proofs.on_exit_heading_atx_sequence.Goals as goal

pub returns-then-has_rank : goal.returns-then-has_rank
unfolding on_exit_heading_atx_sequence
returns-then-has_rank c = whether-yes (told c.has_rank.ensures) (search rules) idle

pub shape_of-captures : goal.shape_of-captures
shape_of-captures c = omega (arith, c.line_ending_if_needed-line.auto, c.push-begun.auto, c.push_rank-r.auto, c.push.auto)

pub shape_of-out : goal.shape_of-out
shape_of-out c = omega (arith, c.line_ending_if_needed-line.auto, c.push-begun.auto, c.push_rank-r.auto, c.push.auto)

pub returns : goal.returns
unfolding on_exit_heading_atx_sequence
returns c = whether-no (told c.has_rank.ensures) c.if-has_rank.false
    (seq (any c.line_ending_if_needed-line.ensures) (seq (c.keep_rank-ranked.ensures.sets _ _) (seq (puts c.push-begun.ensures) (seq (any c.push_rank-r.ensures) (puts c.push.ensures)))))
