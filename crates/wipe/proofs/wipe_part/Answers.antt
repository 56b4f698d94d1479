-- Zero already, or cleared. Assumes nothing.
use Rattle.wipe.proofs.Laws.{still-zero, wiped-end}
use Rattle.std.proofs.Common.{rules}
use Rattle.wipe.proofs.wipe_part.Goals as goal

pub returns-then-not-has_any : goal.returns-then-not-has_any
returns-then-not-has_any c = search still-zero

pub returns : goal.returns
returns c = search (wiped-end, rules)
