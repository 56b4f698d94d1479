-- By the label that is sought.
use Rattle.std.proofs.Common.{rules}
use Rattle.on_definition.proofs.Seeks.{seeks-unset, seeks-is}
use Rattle.on_definition.proofs.seek_label.Goals as goal

pub returns-in-None : goal.returns-in-None
returns-in-None c = seeks-unset c.sought_label-label.ensures (search rules)

pub returns-in-Some : goal.returns-in-Some
returns-in-Some c = seeks-is c.sought_label-label.ensures (search rules) c.seek_at.ensures
