-- By what is called. Assumes nothing.
use Rattle.bundle_read.proofs.Bundle.{events-judged}
use Rattle.bundle_read.proofs.judge_events.Goals as goal

pub returns : goal.returns
returns c = search events-judged
