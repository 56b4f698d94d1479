-- A byte is written, or none is left. Assumes nothing.
use Rattle.little.proofs.Writing.{little-none, little_step, little-end}
use Rattle.little.proofs.put.Goals as goal

pub loop-init : goal.loop-init
loop-init c = little-none _ _ _

pub loop-preserved : goal.loop-preserved
loop-preserved c = search little_step

pub returns : goal.returns
returns c = search little-end
