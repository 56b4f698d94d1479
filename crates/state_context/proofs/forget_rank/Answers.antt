-- No rank.
use Rattle.state_context.proofs.Awaited.{forgets}
use Rattle.state_context.proofs.forget_rank.Goals as goal

pub returns : goal.returns
returns c = search forgets
