-- By whether it is wanted.
use Rattle.state_buffers.proofs.Lines.{unneeded, if-needed}
use Rattle.state_buffers.proofs.line_ending_by.Goals as goal

pub returns-then-is_needless : goal.returns-then-is_needless
returns-then-is_needless c = search unneeded

pub returns : goal.returns
returns c = search if-needed
