-- At the first call, behind one, and behind the last. Assumes nothing.
use Rattle.write_section.proofs.Items.{going_start, going_more, going_end}
use Rattle.write_section.proofs.put_items.Goals as goal

pub loop-i-init : goal.loop-i-init
loop-i-init c = search going_start

pub loop-i-preserved : goal.loop-i-preserved
loop-i-preserved c = search going_more

pub returns : goal.returns
returns c = search going_end
