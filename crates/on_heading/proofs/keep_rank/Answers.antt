-- Where the slice is of the text; elsewhere the machine stops.
use Rattle.on_heading.proofs.Ranks.{no-rank-kept, keeps-rank}
use Rattle.on_heading.proofs.keep_rank.Goals as goal

pub returns-in_default : goal.returns-in_default
returns-in_default c = no-rank-kept _ _ c.in_default.ensures.lookup.0

pub returns : goal.returns
returns c = keeps-rank _ _ c.in-Some.ensures.lookup.0.3 c.with_rank.ensures
