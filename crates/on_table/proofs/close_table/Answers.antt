-- The table alone changes.
use Rattle.on_table.proofs.Columns.{closed}
use Rattle.on_table.proofs.close_table.Goals as goal

pub returns : goal.returns
returns c = closed
