-- A byte is appended, and all are. Assumes nothing.
use Rattle.lent.proofs.Writing.{step, done}
use Rattle.normalize_identifier.proofs.normalize_identifier.Goals as goal

pub loop-b-preserved : goal.loop-b-preserved
loop-b-preserved c = step c.in-Some.ensures.steps c.loop-b.invariant c.put.ensures

pub returns : goal.returns
returns c = done c.in-None.ensures.steps.0 c.loop-b.invariant
