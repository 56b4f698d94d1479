-- No label, one of another signature, the label itself, or another one. Assumes nothing.
use Rattle.check_labels.proofs.Next.{search-other, search-skipped, search-found, search-differs, search-end}
use Rattle.check_labels.proofs.has_label.Goals as goal

pub loop-i-preserved-then-not-is_label : goal.loop-i-preserved-then-not-is_label
loop-i-preserved-then-not-is_label c = search search-other

pub loop-i-preserved-then-skips : goal.loop-i-preserved-then-skips
loop-i-preserved-then-skips c = search search-skipped

pub returns-then-same_identity : goal.returns-then-same_identity
returns-then-same_identity c = search search-found

pub loop-i-preserved : goal.loop-i-preserved
loop-i-preserved c = search search-differs

pub returns : goal.returns
returns c = search search-end
