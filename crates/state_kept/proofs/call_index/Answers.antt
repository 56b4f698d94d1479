-- The first of the labels, or the place behind them. Assumes nothing.
use Rattle.state_kept.proofs.Finds.{call-found}
use Rattle.state_kept.proofs.call_index.Goals as goal

pub returns : goal.returns
returns c = call-found c.part-label.ensures c.columns_of-columns.ensures c.find.ensures c.unwrap_or.ensures
