-- The library's order is the definition's. Assumes nothing.
use Rattle.std.proofs.Common.{sym, ◌∙◌}
use Rattle.character_reference.proofs.Compared.{cmp-is}
use Rattle.character_reference.proofs.order_at.Goals as goal

pub returns : goal.returns
returns c = c.cmp.ensures ∙ sym (cmp-is _ _)
