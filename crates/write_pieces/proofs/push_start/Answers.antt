-- Where the machine goes on. Assumes nothing.
use Rattle.std.proofs.Common.{rules}
use Rattle.write_pieces.proofs.Pushed.{pushed_start}
use Rattle.write_pieces.proofs.push_start.Goals as goal

pub returns : goal.returns
returns c = search (rules, pushed_start)
