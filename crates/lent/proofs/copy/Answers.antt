-- None so far, one more, or all. Assumes nothing.
use Rattle.std.proofs.Common.{rules}
use Rattle.lent.proofs.Laws.{copied, copy-none, copy-end}
use Rattle.lent.proofs.copy.Goals as goal

pub loop-i-init : goal.loop-i-init
loop-i-init c = search (copy-none, rules)

pub loop-i-preserved : goal.loop-i-preserved
loop-i-preserved c = search (copied, rules)

pub returns : goal.returns
returns c = search copy-end
