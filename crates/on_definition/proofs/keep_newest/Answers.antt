-- By its label.
use Rattle.std.proofs.Common.{rules}
use Rattle.on_definition.proofs.Keeps.{not-labelled, keeps-labelled}
use Rattle.on_definition.proofs.keep_newest.Goals as goal

pub returns-in-None : goal.returns-in-None
returns-in-None c = not-labelled (search rules)

pub returns-in-Some : goal.returns-in-Some
returns-in-Some c = keeps-labelled (search rules) c.keep_at.ensures
