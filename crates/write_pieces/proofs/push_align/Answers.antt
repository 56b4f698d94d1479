-- Where the machine goes on. Assumes nothing.
use Rattle.std.proofs.Common.{rules}
use Rattle.write_pieces.proofs.Pushed.{pushed-align}
use Rattle.write_pieces.proofs.push_align.Goals as goal

pub returns : goal.returns
returns c = search (rules, pushed-align)
