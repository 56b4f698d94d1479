-- One after the other.
use mathlib.Core.Path.{refl}
use Rattle.machine.specs.OnLink.{on_enter_image}
use Rattle.state_whole.proofs.Media.{opens-media}
use Rattle.on_link.proofs.Lifted.{lifts-sets}
use Rattle.on_link.proofs.Chains.{then-unlent}
use Rattle.on_link.proofs.on_enter_image.Goals as goal

pub returns : goal.returns
unfolding on_enter_image
returns c = then-unlent (opens-media c.open_media-r.ensures) (lifts-sets refl c.set_alt-r.ensures)
