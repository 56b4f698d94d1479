-- By the name of the second. Assumes nothing.
use Rattle.dispatch_look_back.proofs.Laws.{too-early, after-definition}
use Rattle.dispatch_look_back.proofs.behind_definition.Goals as goal

pub returns-then-i-lt2 : goal.returns-then-i-lt2
returns-then-i-lt2 c = search too-early

pub returns : goal.returns
returns c = search after-definition
