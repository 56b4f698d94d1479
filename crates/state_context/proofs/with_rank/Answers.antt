-- The rank alone changes.
use Rattle.state_context.proofs.Awaited.{ranked}
use Rattle.state_context.proofs.with_rank.Goals as goal

pub returns : goal.returns
returns c = search ranked
