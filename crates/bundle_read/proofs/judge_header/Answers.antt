-- By what is called. Assumes nothing.
use Rattle.bundle_read.proofs.Bundle.{header-judged}
use Rattle.bundle_read.proofs.judge_header.Goals as goal

pub returns : goal.returns
returns c = search header-judged
