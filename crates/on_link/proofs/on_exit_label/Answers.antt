-- What was captured is the label.
use Rattle.std.proofs.Common.{rules}
use Rattle.machine.specs.Media.{label}
use Rattle.machine.specs.OnLink.{on_exit_label}
use Rattle.on_link.proofs.on_exit_label.Goals as goal

pub returns : goal.returns
unfolding on_exit_label
returns c = c.store_by.ensures label (λ l m w w' from n p. search rules)
