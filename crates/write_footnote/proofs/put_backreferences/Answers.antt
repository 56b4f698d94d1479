-- None, one more, and all. Assumes nothing.
use Rattle.write_footnote.proofs.Written.{no-reference, reference-more}
use Rattle.write_footnote.proofs.put_backreferences.Goals as goal

pub loop-i-init : goal.loop-i-init
loop-i-init c = search no-reference

pub loop-i-preserved : goal.loop-i-preserved
loop-i-preserved c = search reference-more
