-- By what `is_replaced` says. Assumes nothing.
use Rattle.character_reference.proofs.Numbers.{replaced, itself}
use Rattle.character_reference.proofs.code_of.Goals as goal

pub returns-then-is_replaced : goal.returns-then-is_replaced
returns-then-is_replaced c = search replaced

pub returns : goal.returns
returns c = search itself
