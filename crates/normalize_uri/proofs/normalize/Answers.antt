-- The walk with encoding off. Assumes nothing.
use Rattle.lent.proofs.Writing.{by}
use Rattle.normalize_uri.proofs.Laws.{normalized}
use Rattle.normalize_uri.proofs.normalize.Goals as goal

pub returns : goal.returns
returns c = search (by, normalized)
