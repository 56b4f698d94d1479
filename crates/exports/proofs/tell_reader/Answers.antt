-- A reader in numbers that stand for it. Assumes nothing.
use Rattle.exports.proofs.Laws.{reader-told}
use Rattle.std.proofs.Common.{rules}
use Rattle.exports.proofs.tell_reader.Goals as goal

pub returns : goal.returns
returns c = search (reader-told, rules)
