-- By its inner function.
use borrow.Author.Rules.{rules}
use Rattle.machine.specs.OnLink.{on_exit_reference_string}
use Rattle.on_link.proofs.on_exit_reference_string.Goals as goal

pub returns : goal.returns
unfolding on_exit_reference_string
returns c = search rules
