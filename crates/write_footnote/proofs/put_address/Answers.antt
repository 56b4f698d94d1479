-- A byte is appended, and all are. Assumes nothing.
use Rattle.lent.proofs.Laws.{all, step, done}
use Rattle.write_footnote.proofs.Laws.{address-start, address_more, address-end}
use Rattle.write_footnote.proofs.put_address.Goals as goal

pub loop-b-init : goal.loop-b-init
loop-b-init c = rw (address-start c.args.address.apostrophes c.args.address.label.now c.new-rest.ensures) all

pub loop-b-preserved : goal.loop-b-preserved
loop-b-preserved c = let e = address_more c.args.address.apostrophes c.in-Some.ensures.steps in search step

pub returns : goal.returns
returns c = done (address-end c.args.address.apostrophes c.in_default.ensures.steps.0) c.loop-b.invariant
