-- By whether there is one.
use Rattle.state_context.proofs.Awaited.{tells-rank}
use Rattle.state_context.proofs.has_rank.Goals as goal

pub returns : goal.returns
returns c = let e = c.is_some.ensures in rw e tells-rank
