-- Where the slice is of the text; elsewhere the machine stops.
use Rattle.state_context.proofs.Slices.{slices, not-sliced}
use Rattle.state_context.proofs.push_slice.Goals as goal

pub returns-in_default : goal.returns-in_default
returns-in_default c = not-sliced _ _ c.in_default.ensures.lookup.0

pub returns : goal.returns
returns c = slices _ _ c.in-Some.ensures.lookup.0.2 c.escaping_in-escaping.ensures c.push_encoded-r.ensures
