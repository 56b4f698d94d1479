-- The byte is written, lies past the end, or falls on it. Assumes nothing.
use Rattle.std.proofs.Common.{refl}
use Rattle.lent.proofs.Laws.{put_in, put-out, put-end}
use Rattle.lent.proofs.Writer.put.Goals as goal

pub returns-then-self : goal.returns-then-self
returns-then-self c = record { filled = search put_in; same = refl }

pub returns-then-self-2 : goal.returns-then-self-2
returns-then-self-2 c = record { filled = search put-out; same = refl }

pub returns : goal.returns
returns c = record { filled = search put-end; same = refl }
