-- The end of all parts is answered. Assumes nothing.
use Rattle.bench_leaves.proofs.Cuts.{late-number, never-more}
use Rattle.bench_leaves.proofs.leaf_read_parts.Goals as goal

pub returns-in_default : goal.returns-in_default
returns-in_default c = search never-more

pub returns : goal.returns
returns c = search late-number
