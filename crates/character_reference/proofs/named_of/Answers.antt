-- By the option. Assumes nothing.
use Rattle.character_reference.proofs.Options.{by_4, by-5}
use Rattle.character_reference.proofs.named_of.Goals as goal

pub returns-in-Html4 : goal.returns-in-Html4
returns-in-Html4 c = search by_4

pub returns-in-Html5 : goal.returns-in-Html5
returns-in-Html5 c = search by-5
