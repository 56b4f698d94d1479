-- The page's reader, told. Assumes nothing.
use Rattle.exports.proofs.Laws.{starts}
use Rattle.std.proofs.Common.{rules}
use Rattle.exports.proofs.notepage_bundle_reader.Goals as goal

pub returns : goal.returns
returns c = search (starts, rules)
