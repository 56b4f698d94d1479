-- By the bit of the name. Assumes nothing.
use Rattle.check_events.proofs.Idle.{idle-enter}
use Rattle.check_events.proofs.is_idle_enter.Goals as goal

pub returns : goal.returns
returns c = search idle-enter
