-- The record's second byte. Assumes nothing.
use Rattle.event.proofs.Laws.{name-read}
use Rattle.event.proofs.name_at.Goals as goal

pub returns : goal.returns
returns c = search name-read
