-- 1, then 2, then the passes.
use Rattle.check_list.proofs.Order.{wrong-length, not-utf8, from-here}
use Rattle.check_list.proofs.check.Goals as goal

pub returns-then-not-sizes_hold : goal.returns-then-not-sizes_hold
returns-then-not-sizes_hold c = search wrong-length

pub returns-then-not-is_utf8 : goal.returns-then-not-is_utf8
returns-then-not-is_utf8 c = search not-utf8

pub returns : goal.returns
returns c = search from-here
