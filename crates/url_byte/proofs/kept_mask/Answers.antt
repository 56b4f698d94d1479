-- By the two ranges. Assumes nothing.
use Rattle.std.proofs.Common.{rules}
use Rattle.url_byte.specs.Private.{kept_mask}
use Rattle.url_byte.proofs.kept_mask.Goals as goal

pub returns-in-0-to-63 : goal.returns-in-0-to-63
unfolding kept_mask
returns-in-0-to-63 c = search rules

pub returns-in-64-to-127 : goal.returns-in-64-to-127
unfolding kept_mask
returns-in-64-to-127 c = search rules

pub returns-in_default : goal.returns-in_default
unfolding kept_mask
returns-in_default c = search rules
