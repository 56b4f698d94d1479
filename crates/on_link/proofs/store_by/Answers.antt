-- What was captured is held.
use Rattle.std.proofs.Common.{arith}
use Rattle.state_whole.proofs.Media.{stores}
use Rattle.on_link.proofs.store_by.Goals as goal

pub returns : goal.returns
returns g c = λ part k. let e = rw c.captured_length-n.ensures at (k _ _ _ _ _ _ c.store-r.ensures) in stores e c.drop-c.ensures (omega (arith, c.store-r.auto))
