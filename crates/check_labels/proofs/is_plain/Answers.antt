-- Neither of the two names. Assumes nothing.
use Rattle.check_labels.proofs.Next.{by_name}
use Rattle.check_labels.proofs.is_plain.Goals as goal

pub returns-then-name-ne-DEFINITION_LABEL_STRING : goal.returns-then-name-ne-DEFINITION_LABEL_STRING
returns-then-name-ne-DEFINITION_LABEL_STRING c = search by_name
