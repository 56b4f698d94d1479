-- By what is called. Assumes nothing.
use Rattle.bundle_read.proofs.Bundle.{count-judged}
use Rattle.bundle_read.proofs.judge_count.Goals as goal

pub returns : goal.returns
returns c = search count-judged
