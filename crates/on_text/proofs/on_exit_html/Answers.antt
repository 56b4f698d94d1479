-- One flag.
use borrow.Author.Rules.{rules}
use Rattle.machine.specs.OnText.{on_exit_html}
use Rattle.on_text.proofs.on_exit_html.Goals as goal

pub returns : goal.returns
unfolding on_exit_html
returns c = search rules
