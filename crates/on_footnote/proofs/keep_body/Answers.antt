-- The capture is carried and taken off. Assumes nothing.
use Rattle.on_footnote.proofs.Bodies.{no_body, keeps-body}
use Rattle.on_footnote.proofs.keep_body.Goals as goal

pub returns-then-to-from : goal.returns-then-to-from
returns-then-to-from c = no_body c.if-to-from.true

pub returns : goal.returns
returns c = keeps-body c.keep_footnote-r.ensures c.drop-c.ensures c.keep_footnote-r.auto.work
