-- Where the slice is of the text; elsewhere the machine stops.
use Rattle.on_list.proofs.Starts.{no-start, starts}
use Rattle.on_list.proofs.push_start.Goals as goal

pub returns-in_default : goal.returns-in_default
returns-in_default c = no-start _ _ c.in_default.ensures.lookup.0

pub returns : goal.returns
returns c = starts _ _ c.in-Some.ensures.lookup.0.2 c.push_start-r.ensures
