-- The number of an ending. Assumes nothing.
use Rattle.exports.proofs.Laws.{ending-cr, ending-cr-lf, ending-lf}
use Rattle.std.proofs.Common.{rules}
use Rattle.exports.proofs.ending_of.Goals as goal

pub returns-in-1 : goal.returns-in-1
returns-in-1 c = search (ending-cr, rules)

pub returns-in-2 : goal.returns-in-2
returns-in-2 c = search (ending-cr-lf, rules)

pub returns-in_default : goal.returns-in_default
returns-in_default c = search (ending-lf, rules)
