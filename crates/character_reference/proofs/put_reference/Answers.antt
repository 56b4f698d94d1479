-- By what `value_of` says.
use Rattle.character_reference.proofs.Laws.{writes, writes_nothing}
use Rattle.character_reference.proofs.put_reference.Goals as goal

pub returns-in-Some : goal.returns-in-Some
returns-in-Some c = search writes

pub returns-in_default : goal.returns-in_default
returns-in_default c = search writes_nothing
