-- One more mark. Assumes nothing.
use Rattle.std.proofs.Common.{refl, rules}
use Rattle.url_run.specs.Private.{marks_of}
use Rattle.url_run.proofs.Laws.{mark-more}
use Rattle.url_run.proofs.mark_all.Goals as goal

pub loop-k-init : goal.loop-k-init
unfolding marks_of
loop-k-init c = refl

pub loop-k-preserved : goal.loop-k-preserved
loop-k-preserved c = search (rules, mark-more)
