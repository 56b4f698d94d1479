-- By the bit of the name. Assumes nothing.
use Rattle.check_events.proofs.Idle.{idle-exit}
use Rattle.check_events.proofs.is_idle_exit.Goals as goal

pub returns : goal.returns
returns c = search idle-exit
