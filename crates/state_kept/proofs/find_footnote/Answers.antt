-- The first of the labels. Assumes nothing.
use Rattle.state_kept.proofs.Finds.{footnote-found}
use Rattle.state_kept.proofs.find_footnote.Goals as goal

pub returns : goal.returns
returns c = footnote-found c.part-label.ensures c.columns_of-columns.ensures c.find.ensures
