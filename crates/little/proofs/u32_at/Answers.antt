-- By what `from_le_bytes` makes of the bytes. Assumes nothing.
use Rattle.std.proofs.Common.{◌∙◌}
use Rattle.little.proofs.Laws.{four}
use Rattle.little.proofs.u32_at.Goals as goal

pub returns : goal.returns
returns c = c.from_le_bytes.ensures ∙ four c.args.at c.args.s.now c.requires
