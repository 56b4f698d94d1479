-- By the answers.
use borrow.Author.Rules.{rules}
use Rattle.state_context.proofs.Commands.{idle, whether-yes, whether-no}
use Rattle.on_flow.proofs.end_missing_fence.Goals as goal

pub returns-then-is_fence_missing : goal.returns-then-is_fence_missing
returns-then-is_fence_missing c = whether-yes c.is_fence_missing.ensures (search rules) c.line_ending_if_needed.ensures

pub returns : goal.returns
returns c = whether-no c.is_fence_missing.ensures (search rules) idle
