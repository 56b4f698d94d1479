-- The record's first byte. Assumes nothing.
use Rattle.event.proofs.Laws.{kind-read}
use Rattle.event.proofs.kind_at.Goals as goal

pub returns : goal.returns
returns c = search kind-read
