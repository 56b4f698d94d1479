-- One after the other.
use mathlib.Core.Path.{refl}
use native.Mathlib.Omega.{arith}
use Rattle.machine.specs.OnDefinition.{on_enter_definition}
use Rattle.state_whole.proofs.Media.{opens-media}
use Rattle.on_link.proofs.Lifted.{lifts-begins}
use Rattle.on_link.proofs.Chains.{then-on-starts}
use Rattle.on_definition.proofs.on_enter_definition.Goals as goal

pub returns : goal.returns
unfolding on_enter_definition
returns c = then-on-starts (lifts-begins refl c.open-r.ensures (omega (arith, c.open-r.auto))) (opens-media c.open_media-r.ensures)
