-- The capture goes, and the slice names it.
use mathlib.Core.Path.{refl}
use Rattle.on_link.proofs.Lifted.{lifts-ends, identified}
use Rattle.on_link.proofs.Chains.{then-from-starts}
use Rattle.on_link.proofs.identify_reference.Goals as goal

pub returns : goal.returns
returns c = then-from-starts (lifts-ends refl c.drop-r.ensures) (identified c.identify_reference-r.ensures)
