-- The bit is 1 or 0.
use Rattle.packed.proofs.Bits.{wide-yes, wide-no}
use Rattle.packed.proofs.Tight.with_bit.Goals as goal

pub returns-then-x : goal.returns-then-x
returns-then-x c = search wide-yes

pub returns : goal.returns
returns c = search wide-no
