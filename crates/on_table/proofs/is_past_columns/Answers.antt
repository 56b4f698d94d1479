-- By the columns of the extra field.
use Rattle.on_table.proofs.Asked.{tells-past}
use Rattle.on_table.proofs.is_past_columns.Goals as goal

pub returns : goal.returns
returns c = search tells-past
