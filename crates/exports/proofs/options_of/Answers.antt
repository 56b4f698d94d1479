-- Option by option. Assumes nothing.
use Rattle.exports.proofs.Laws.{options}
use Rattle.std.proofs.Common.{rules}
use Rattle.exports.proofs.options_of.Goals as goal

pub returns : goal.returns
returns c = search (options, rules)
