-- None, or half.
use Rattle.packed.proofs.Bits.{none-fewer, one_fewer}
use Rattle.packed.proofs.Tight.fewer.Goals as goal

pub returns-then-n-eq0 : goal.returns-then-n-eq0
returns-then-n-eq0 c = search none-fewer

pub returns : goal.returns
returns c = search one_fewer
