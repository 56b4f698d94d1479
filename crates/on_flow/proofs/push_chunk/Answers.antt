-- Where the slice is of the text; elsewhere the machine stops.
use Rattle.on_flow.proofs.Chunks.{no-chunk, chunks}
use Rattle.on_flow.proofs.push_chunk.Goals as goal

pub returns-in_default : goal.returns-in_default
returns-in_default c = no-chunk _ _ c.in_default.ensures.lookup.0

pub returns : goal.returns
returns c = chunks _ _ c.in-Some.ensures.lookup.0.2 c.escaping_in-escaping.ensures c.push_padded-r.ensures
