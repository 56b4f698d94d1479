-- Counted up to 256.
use Rattle.on_table.proofs.Columns.{counts, counts-no-more}
use Rattle.on_table.proofs.next_column.Goals as goal

pub returns-then-n-gt255 : goal.returns-then-n-gt255
returns-then-n-gt255 c = search counts-no-more

pub returns : goal.returns
returns c = search counts
