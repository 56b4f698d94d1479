-- The page, or the newest capture.
use Rattle.state_buffers.proofs.Lines.{start-of-page, start-of-capture}
use Rattle.state_buffers.proofs.at_line_start.Goals as goal

pub returns-then-b-eq0 : goal.returns-then-b-eq0
returns-then-b-eq0 c = search start-of-page

pub returns : goal.returns
returns c = search start-of-capture
