-- The table alone changes.
use Rattle.on_table.proofs.Columns.{first-again}
use Rattle.on_table.proofs.first_column.Goals as goal

pub returns : goal.returns
returns c = first-again
