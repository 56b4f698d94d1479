-- What was captured is the destination.
use Rattle.std.proofs.Common.{rules, refl}
use Rattle.machine.specs.Media.{destination}
use Rattle.on_link.proofs.Lifted.{lifts-sets}
use Rattle.on_link.proofs.Chains.{then-on-work}
use Rattle.on_link.proofs.store_destination.Goals as goal

pub returns : goal.returns
returns c = then-on-work (c.store_by-r.ensures destination (λ l m w w' from n p. search rules)) (lifts-sets refl c.set_encode-r.ensures)
