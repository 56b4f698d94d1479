-- Exactly, or through a block of its own. Assumes nothing.
use Rattle.std.proofs.Common.{refl, arith}
use Rattle.lent.proofs.Ahead.{ahead-cut, ahead-moved}
use Rattle.lent.proofs.Writer.put_ahead.Goals as goal

pub returns-then-room-lt8 : goal.returns-then-room-lt8
returns-then-room-lt8 c = record { ahead = ahead-cut _ _ c.put_all.ensures.filled; same = c.put_all.ensures.same }

pub returns : goal.returns
returns c = record { ahead = ahead-moved _ _ _ _ _ _ 8 (omega arith) (omega arith) (omega arith) (omega arith) c.copy_from_slice.ensures.after c.copy.ensures; same = refl }
