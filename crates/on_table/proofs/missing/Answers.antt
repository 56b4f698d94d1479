-- By the columns of the extra field.
use Rattle.std.proofs.Common.{◌∙◌}
use Rattle.on_table.proofs.Asked.{lacking}
use Rattle.on_table.proofs.missing.Goals as goal

pub returns : goal.returns
returns c = let e = c.columns_in.ensures in lacking _ (rw e at c.saturating_sub.ensures)
