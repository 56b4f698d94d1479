-- A zero more. Assumes nothing.
use Rattle.std.proofs.Common.{rules}
use Rattle.lent.proofs.Laws.{cleared}
use Rattle.lent.proofs.clear.Goals as goal

pub loop-i-preserved : goal.loop-i-preserved
loop-i-preserved c = search (cleared, rules)
