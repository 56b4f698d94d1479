-- Only the pass over definitions jumps. Assumes nothing.
use Rattle.run_next.proofs.Left.{walks-start, jumps}
use Rattle.run_next.proofs.jump.Goals as goal

pub returns-then-p : goal.returns-then-p
returns-then-p c = walks-start

pub returns-then-first : goal.returns-then-first
returns-then-first c = jumps c.if-first.true c.if-p.false c.next_definition-at.ensures

pub returns : goal.returns
returns c = walks-start
