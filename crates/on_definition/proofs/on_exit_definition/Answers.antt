-- The capture goes, and the definition is kept.
use Rattle.machine.specs.OnDefinition.{on_exit_definition}
use Rattle.on_definition.proofs.Keeps.{dropped-first}
use Rattle.on_definition.proofs.on_exit_definition.Goals as goal

pub returns : goal.returns
unfolding on_exit_definition
returns c = dropped-first c.drop-r.ensures c.keep_newest.ensures
