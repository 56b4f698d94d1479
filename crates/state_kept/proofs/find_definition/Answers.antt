-- The first of the labels. Assumes nothing.
use Rattle.state_kept.proofs.Finds.{definition-found}
use Rattle.state_kept.proofs.find_definition.Goals as goal

pub returns : goal.returns
returns c = definition-found c.part-label.ensures c.columns_of-columns.ensures c.find.ensures
