-- First a jump, then a walk. Assumes nothing.
use Rattle.run_next.proofs.Left.{then-ahead}
use Rattle.run_next.proofs.ahead.Goals as goal

pub returns : goal.returns
returns c = then-ahead c.jump.ensures c.walk.ensures
