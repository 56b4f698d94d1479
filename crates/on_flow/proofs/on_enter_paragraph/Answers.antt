-- None in a tight container.
use borrow.Author.Rules.{rules}
use Rattle.machine.specs.OnFlow.{on_enter_paragraph}
use Rattle.state_context.proofs.Commands.{idle, seq, puts, whether-yes, whether-no}
use Rattle.on_flow.proofs.on_enter_paragraph.Goals as goal

pub returns-then-is_tight : goal.returns-then-is_tight
unfolding on_enter_paragraph
returns-then-is_tight c = search (whether-yes, idle)

pub returns : goal.returns
unfolding on_enter_paragraph
returns c = whether-no c.is_tight.ensures (search rules) (seq c.line_ending_if_needed-r.ensures (puts c.push.ensures))
