-- What is left to move is the bytes from i on.
use Prim.Native.Nat.{◌-◌}
use Rattle.state_resume.proofs.Moves.{pack-none, pack-more, pack-end}
use Rattle.state_resume.proofs.pack.Goals as goal

pub loop-i-init : goal.loop-i-init
loop-i-init c = search pack-none

pub loop-i-preserved : goal.loop-i-preserved
loop-i-preserved c = search pack-more

pub returns : goal.returns
returns c = search pack-end
