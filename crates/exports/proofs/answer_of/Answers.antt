-- An answer from its numbers. Assumes nothing.
use Rattle.exports.proofs.Laws.{answer-bundle, answer-refused}
use Rattle.std.proofs.Common.{rules}
use Rattle.exports.proofs.answer_of.Goals as goal

pub returns-then-a-eq0 : goal.returns-then-a-eq0
returns-then-a-eq0 c = search (answer-bundle, rules)

pub returns : goal.returns
returns c = search (answer-refused, rules)
