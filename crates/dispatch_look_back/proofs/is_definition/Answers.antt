-- Each test is one of the definition's. Assumes nothing.
use Rattle.dispatch_look_back.proofs.Laws.{definition}
use Rattle.dispatch_look_back.proofs.is_definition.Goals as goal

pub returns : goal.returns
returns c = search definition
