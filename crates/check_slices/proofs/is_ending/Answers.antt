-- Two bytes of which the first is no CR, or more. Assumes nothing.
use Rattle.check_slices.proofs.Rules.{no_return, too-long}
use Rattle.check_slices.proofs.is_ending.Goals as goal

pub returns-else-a-eq13 : goal.returns-else-a-eq13
returns-else-a-eq13 c = no_return c.args.s.now c.in-len2.len_at_least c.in-len2.len_below c.if-a-eq13.false

pub returns-in_default-2 : goal.returns-in_default-2
returns-in_default-2 c = too-long c.args.s.now c.in_default.len_at_least
