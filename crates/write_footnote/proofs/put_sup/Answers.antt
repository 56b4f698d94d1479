-- Nothing, or the number in its element. Assumes nothing.
use Rattle.write_footnote.proofs.Written.{first-time, sup}
use Rattle.write_footnote.proofs.put_sup.Goals as goal

pub returns-then-n-le1 : goal.returns-then-n-le1
returns-then-n-le1 c = search first-time

pub returns : goal.returns
returns c = search sup
