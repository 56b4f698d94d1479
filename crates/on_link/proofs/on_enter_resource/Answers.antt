-- One after the other.
use mathlib.Core.Path.{refl}
use native.Mathlib.Omega.{arith}
use Rattle.machine.specs.OnLink.{on_enter_resource}
use Rattle.state_whole.proofs.Media.{empties}
use Rattle.on_link.proofs.Lifted.{lifts-begins}
use Rattle.on_link.proofs.Chains.{then-on-starts}
use Rattle.on_link.proofs.on_enter_resource.Goals as goal

pub returns : goal.returns
unfolding on_enter_resource
returns c = then-on-starts (lifts-begins refl c.open-r.ensures (omega (arith, c.open-r.auto))) (empties c.empty_destination-r.ensures)
