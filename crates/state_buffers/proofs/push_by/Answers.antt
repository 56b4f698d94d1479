-- To the page, or to the newest capture.
use Rattle.state_buffers.proofs.Laws.{push-page, push-capture}
use Rattle.state_buffers.proofs.push_by.Goals as goal

pub returns-then-b-eq0 : goal.returns-then-b-eq0
returns-then-b-eq0 g c = λ t k. push-page _ _ _ t _ _ c.if-b-eq0.true (k _ _ _ _ c.put.ensures)

pub returns : goal.returns
returns g c = λ t k. push-capture _ _ _ t _ _ c.if-b-eq0.false (k _ _ _ _ c.put-2.ensures)
