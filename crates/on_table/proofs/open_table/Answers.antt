-- The table alone changes.
use Rattle.on_table.proofs.Columns.{opened}
use Rattle.on_table.proofs.open_table.Goals as goal

pub returns : goal.returns
returns c = opened _
