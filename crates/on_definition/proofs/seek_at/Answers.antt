-- By what is found.
use borrow.Author.Rules.{rules}
use Rattle.on_definition.proofs.Seeks.{seeks-nothing, seeks-found}
use Rattle.on_definition.proofs.seek_at.Goals as goal

pub returns-in-None : goal.returns-in-None
returns-in-None c = seeks-nothing c.find_definition-found.ensures (search rules)

pub returns-in-Some : goal.returns-in-Some
returns-in-Some c = seeks-found c.find_definition-found.ensures (search rules) c.lead_to-r.ensures
