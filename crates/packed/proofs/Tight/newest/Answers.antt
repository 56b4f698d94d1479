-- None, or the lowest bit.
use Rattle.packed.proofs.Bits.{none-newest, lowest}
use Rattle.packed.proofs.Tight.newest.Goals as goal

pub returns-then-n-eq0 : goal.returns-then-n-eq0
returns-then-n-eq0 c = search none-newest

pub returns : goal.returns
returns c = search lowest
