-- The number of a refusal. Assumes nothing.
use Rattle.exports.proofs.Laws.{refusal-short, refusal-check, refusal-edition, refusal-broken}
use Rattle.std.proofs.Common.{rules}
use Rattle.exports.proofs.refusal_of.Goals as goal

pub returns-in-1 : goal.returns-in-1
returns-in-1 c = search (refusal-short, rules)

pub returns-in-11 : goal.returns-in-11
returns-in-11 c = search (refusal-check, rules)

pub returns-in-12 : goal.returns-in-12
returns-in-12 c = search (refusal-edition, rules)

pub returns-in_default : goal.returns-in_default
returns-in_default c = search (refusal-broken, rules)
