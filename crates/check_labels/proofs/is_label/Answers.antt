-- By name and kind. Assumes nothing.
use Rattle.check_labels.proofs.Next.{no_label, by_kind}
use Rattle.check_labels.proofs.is_label.Goals as goal

pub returns-then-name_at-n : goal.returns-then-name_at-n
returns-then-name_at-n c = search by_kind

pub returns-else-name_at-n : goal.returns-else-name_at-n
returns-else-name_at-n c = search no_label
