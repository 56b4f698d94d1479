-- By the answers.
use borrow.Author.Rules.{rules}
use Rattle.state_context.proofs.Commands.{idle, whether-yes, whether-no}
use Rattle.on_flow.proofs.end_seen_data.Goals as goal

pub returns-then-has_seen_data : goal.returns-then-has_seen_data
returns-then-has_seen_data c = whether-yes c.has_seen_data.ensures (search rules) c.line_ending_if_needed.ensures

pub returns : goal.returns
returns c = whether-no c.has_seen_data.ensures (search rules) idle
