-- By what `from_le_bytes` makes of the bytes. Assumes nothing.
use Rattle.std.proofs.Common.{◌∙◌, arith}
use Rattle.little.proofs.Laws.{two}
use Rattle.little.proofs.u16_at.Goals as goal

pub returns : goal.returns
returns c = (c.from.ensures ∙ c.from_le_bytes.ensures ∙ two c.args.at c.args.s.now c.requires, omega arith)
