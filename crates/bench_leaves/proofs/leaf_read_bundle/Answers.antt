-- The reader's answer, by its number. Assumes nothing.
use Rattle.bench_leaves.proofs.Laws.{numbers}
use Rattle.bench_leaves.proofs.leaf_read_bundle.Goals as goal

pub returns : goal.returns
returns c = search numbers
