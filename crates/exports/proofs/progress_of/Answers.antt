-- The answer so far from its numbers. Assumes nothing.
use Rattle.exports.proofs.Laws.{progress-more, progress-done}
use Rattle.std.proofs.Common.{rules}
use Rattle.exports.proofs.progress_of.Goals as goal

pub returns-then-done-eq0 : goal.returns-then-done-eq0
returns-then-done-eq0 c = search (progress-more, rules)

pub returns : goal.returns
returns c = search (progress-done, rules)
