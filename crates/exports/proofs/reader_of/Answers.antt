-- A reader from its numbers. Assumes nothing.
use Rattle.exports.proofs.Laws.{reader-given}
use Rattle.std.proofs.Common.{rules}
use Rattle.exports.proofs.reader_of.Goals as goal

pub returns : goal.returns
returns c = search (reader-given, rules)
