-- From k on the bytes are moved.
use Rattle.state_resume.proofs.Moves.{up_none, up_more}
use Rattle.state_resume.proofs.shift_up.Goals as goal

pub loop-k-init : goal.loop-k-init
loop-k-init c = search up_none

pub loop-k-preserved : goal.loop-k-preserved
loop-k-preserved c = search up_more
