-- By the option.
use borrow.Author.Rules.{rules}
use Rattle.machine.specs.OnText.{on_enter_html_text}
use Rattle.state_context.proofs.Commands.{idle, sets, whether-yes, whether-no, tells-html}
use Rattle.on_text.proofs.on_enter_html_text.Goals as goal

pub returns-then-allowed : goal.returns-then-allowed
unfolding on_enter_html_text
returns-then-allowed c = record { sets = λ w o. whether-yes tells-html (search rules) (sets c.set_encode.ensures) }

pub returns : goal.returns
unfolding on_enter_html_text
returns c = record { sets = λ w o. whether-no tells-html (search rules) idle }
