-- By what is called. Assumes nothing.
use Rattle.bundle_read.proofs.Bundle.{text-judged}
use Rattle.bundle_read.proofs.judge_text.Goals as goal

pub returns : goal.returns
returns c = search text-judged
