-- As of a resource.
use borrow.Author.Rules.{rules}
use Rattle.machine.specs.OnDefinition.{on_exit_definition_title_string}
use Rattle.on_definition.proofs.on_exit_definition_title_string.Goals as goal

pub returns : goal.returns
unfolding on_exit_definition_title_string
returns c = search rules
