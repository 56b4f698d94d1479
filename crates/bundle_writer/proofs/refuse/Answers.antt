-- All is cleared. Assumes nothing.
use Rattle.bundle_writer.proofs.Call.{cleared}
use Rattle.std.proofs.Common.{rules}
use Rattle.bundle_writer.proofs.refuse.Goals as goal

pub returns : goal.returns
returns c = (search rules, search cleared)
