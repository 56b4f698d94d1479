-- One more visit, the last one, or none left. Assumes nothing.
use Rattle.std.proofs.Common.{zero-add, rules}
use Rattle.normalize_visits.proofs.Laws.{goes_on, ends, ended}
use Rattle.normalize_visits.proofs.count_visits.Goals as goal

pub loop-i-init : goal.loop-i-init
loop-i-init c = (search rules, zero-add _)

pub returns-then-url-i : goal.returns-then-url-i
returns-then-url-i c = search ends

pub loop-i-preserved : goal.loop-i-preserved
loop-i-preserved c = (search rules, search goes_on)

pub returns : goal.returns
returns c = search ended
