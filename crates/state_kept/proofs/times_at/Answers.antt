-- The word of the third column. Assumes nothing.
use Rattle.state_kept.proofs.Counts.{tells-times}
use Rattle.state_kept.proofs.times_at.Goals as goal

pub returns : goal.returns
returns c = search tells-times
