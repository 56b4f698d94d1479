-- One more is open.
use Rattle.machine.specs.OnLink.{on_enter_link}
use Rattle.state_whole.proofs.Media.{opens-media}
use Rattle.on_link.proofs.on_enter_link.Goals as goal

pub returns : goal.returns
unfolding on_enter_link
returns c = opens-media c.open_media-r.ensures
