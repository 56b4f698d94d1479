-- By the mask. Assumes nothing.
use Rattle.encode_byte.proofs.Laws.{by_mask}
use Rattle.encode_byte.proofs.is_special.Goals as goal

pub returns : goal.returns
returns c = search by_mask
