-- Where there are fewer than 64 there is a bit for it.
use Rattle.packed.proofs.Bits.{too-deep, too_wide, widens}
use Rattle.packed.proofs.Tight.more.Goals as goal

pub returns-then-n-gt63 : goal.returns-then-n-gt63
returns-then-n-gt63 c = search too-deep

pub returns-then-old-gt9223372036854775807 : goal.returns-then-old-gt9223372036854775807
returns-then-old-gt9223372036854775807 c = search too_wide

pub returns : goal.returns
returns c = search widens
