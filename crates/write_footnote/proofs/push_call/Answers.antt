-- To the page, or to the newest capture. Assumes nothing.
use Rattle.state_buffers.proofs.Laws.{push-page, push-capture}
use Rattle.write_footnote.proofs.push_call.Goals as goal

pub returns-then-b-eq0 : goal.returns-then-b-eq0
returns-then-b-eq0 c = search push-page

pub returns : goal.returns
returns c = search push-capture
