-- By shift and mask.
use Rattle.packed.proofs.Digits.{digit-is}
use Rattle.packed.proofs.digit.Goals as goal

pub returns : goal.returns
returns c = search digit-is
