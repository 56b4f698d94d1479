-- Where the slice is of the text; elsewhere the machine stops.
use Rattle.on_inline.proofs.Autolinks.{no-url, urls}
use Rattle.on_inline.proofs.push_url.Goals as goal

pub returns-in_default : goal.returns-in_default
returns-in_default c = no-url _ _ c.in_default.ensures.lookup.0

pub returns : goal.returns
returns c = urls _ _ c.in-Some.ensures.lookup.0.2 c.push_url-r.ensures
