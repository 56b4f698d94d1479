-- By name and kind, then by what is sought. Assumes nothing.
use Rattle.check_labels.proofs.Uses.{use-other, use-exit, use-medium, use-call}
use Rattle.check_labels.proofs.is_use.Goals as goal

pub returns-then-is_other : goal.returns-then-is_other
returns-then-is_other c = search use-other

pub returns-then-kind-ne-ENTER : goal.returns-then-kind-ne-ENTER
returns-then-kind-ne-ENTER c = search use-exit

pub returns-then-is_medium : goal.returns-then-is_medium
returns-then-is_medium c = search use-medium

pub returns : goal.returns
returns c = use-call _ _ c.name_at-name.ensures c.kind_at-kind.ensures c.if-kind-ne-ENTER.false c.is_medium.ensures c.if-is_medium.false
