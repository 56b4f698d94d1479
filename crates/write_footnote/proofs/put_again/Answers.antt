-- Nothing, or a dash and the number. Assumes nothing.
use Rattle.write_footnote.proofs.Written.{first-time, again}
use Rattle.write_footnote.proofs.put_again.Goals as goal

pub returns-then-times-le1 : goal.returns-then-times-le1
returns-then-times-le1 c = search first-time

pub returns : goal.returns
returns c = search again
