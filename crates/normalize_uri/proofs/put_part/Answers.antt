-- One more byte, or none left. Assumes nothing.
use Rattle.lent.proofs.Writing.{all, step, done}
use Rattle.normalize_uri.proofs.Laws.{part-more, part_end}
use Rattle.normalize_uri.proofs.put_part.Goals as goal

pub loop-i-init : goal.loop-i-init
loop-i-init c = all

pub loop-i-preserved : goal.loop-i-preserved
loop-i-preserved c = search (step, part-more)

pub returns : goal.returns
returns c = search (done, part_end)
