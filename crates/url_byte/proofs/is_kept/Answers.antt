-- The masks hold the kept bytes. Assumes nothing.
use Rattle.url_byte.proofs.Laws.{by_mask}
use Rattle.url_byte.proofs.is_kept.Goals as goal

pub returns : goal.returns
returns c = search by_mask
