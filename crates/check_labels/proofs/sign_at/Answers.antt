-- No label, or its signature put. Assumes nothing.
use Rattle.check_labels.proofs.Next.{signs-none, signs-put}
use Rattle.check_labels.proofs.sign_at.Goals as goal

pub returns-then-is_label : goal.returns-then-is_label
returns-then-is_label c = search signs-put

pub returns : goal.returns
returns c = search signs-none
