-- Where the table has a row left. Assumes nothing.
use Rattle.state_kept.proofs.Opens.{opens-short, opens-full, opens-label}
use Rattle.state_kept.proofs.open_label.Goals as goal

pub returns-then-labels-ne-LABEL_WORDS : goal.returns-then-labels-ne-LABEL_WORDS
returns-then-labels-ne-LABEL_WORDS c = search opens-short

pub returns-then-i-ge-NOTES : goal.returns-then-i-ge-NOTES
returns-then-i-ge-NOTES c = search opens-full

pub returns : goal.returns
returns c = search opens-label
