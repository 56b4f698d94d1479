-- Turned twice. Assumes nothing.
use Rattle.signature.proofs.Laws.{mix-is}
use Rattle.signature.proofs.mixed.Goals as goal

pub returns : goal.returns
returns c = search mix-is
