-- By what is called. Assumes nothing.
use Rattle.bundle_read.proofs.Bundle.{length-judged}
use Rattle.bundle_read.proofs.judge_length.Goals as goal

pub returns : goal.returns
returns c = search length-judged
