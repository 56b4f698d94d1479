-- The last one of the list.
use borrow.Author.Rules.{rules}
use Rattle.machine.specs.OnText.{on_exit_blank_line_ending}
use Rattle.state_context.proofs.Commands.{any, idle, sets, seq, whether-yes, whether-no, tells-last}
use Rattle.on_text.proofs.on_exit_blank_line_ending.Goals as goal

pub returns-then-last : goal.returns-then-last
unfolding on_exit_blank_line_ending
returns-then-last c = seq (sets c.set_slurp-r.ensures) (whether-yes tells-last (search rules) (any c.line_ending_if_needed.ensures))

pub returns : goal.returns
unfolding on_exit_blank_line_ending
returns c = seq (sets c.set_slurp-r.ensures) (whether-no tells-last (search rules) idle)
