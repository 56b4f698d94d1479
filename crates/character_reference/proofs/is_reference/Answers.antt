-- By what `value_of` says. Assumes nothing.
use Rattle.character_reference.proofs.Laws.{is-one-or-none}
use Rattle.character_reference.proofs.is_reference.Goals as goal

pub returns : goal.returns
returns c = is-one-or-none _ _ _ _ c.value_of.ensures c.is_some.ensures
