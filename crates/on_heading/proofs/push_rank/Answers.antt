-- Where there is one; elsewhere the machine stops.
use Rattle.on_heading.proofs.Ranks.{no-rank, writes-rank}
use Rattle.on_heading.proofs.push_rank.Goals as goal

pub returns-in_default : goal.returns-in_default
returns-in_default c = search no-rank

pub returns : goal.returns
returns c = search writes-rank
