-- The first, or a later one behind a space. Assumes nothing.
use Rattle.write_footnote.proofs.Written.{next-first, next-later}
use Rattle.write_footnote.proofs.put_next.Goals as goal

pub returns-then-n-le1 : goal.returns-then-n-le1
returns-then-n-le1 c = search next-first

pub returns : goal.returns
returns c = search next-later
