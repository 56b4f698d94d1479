-- A cursor at the start has the whole identity before it. Assumes nothing.
use Rattle.normalize_identifier.proofs.Laws.{left-start}
use Rattle.normalize_identifier.proofs.Identity.new.Goals as goal

pub returns : goal.returns
returns c = search left-start
