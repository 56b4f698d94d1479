-- The loop's invariant: the bytes before `at` have been fed. Assumes nothing.
use Rattle.bench_leaves.proofs.Cuts.{cut-none, cut-more, cut-end}
use borrow.Author.Rules.{rules}
use Rattle.bench_leaves.proofs.feed_all.Goals as goal

pub loop-at-init : goal.loop-at-init
loop-at-init c = search (cut-none, rules)

pub loop-at-preserved : goal.loop-at-preserved
loop-at-preserved c = search (cut-more, rules)

pub returns : goal.returns
returns c = search cut-end
