-- Nothing fits, all fits, or a part. Assumes nothing.
use Rattle.std.proofs.Common.{refl}
use Rattle.lent.proofs.Laws.{all-out, all_in, all-cut}
use Rattle.lent.proofs.Writer.put_all.Goals as goal

pub returns-then-self : goal.returns-then-self
returns-then-self c = record { filled = search all-out; same = refl }

pub returns-then-s-room : goal.returns-then-s-room
returns-then-s-room c = record { filled = search all_in; same = refl }

pub returns : goal.returns
returns c = record { filled = search all-cut; same = refl }
