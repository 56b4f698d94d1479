-- The bits are 0 where all are no.
use Rattle.packed.proofs.Bits.{any-bit}
use Rattle.packed.proofs.Tight.any.Goals as goal

pub returns : goal.returns
returns c = search any-bit
