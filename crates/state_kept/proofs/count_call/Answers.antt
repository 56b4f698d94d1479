-- Where it was counted before, once more; else behind the last. Assumes nothing.
use Rattle.state_kept.proofs.Counts.{counts-short, counts-full, counts-many, counts-more, counts-new}
use Rattle.state_kept.proofs.count_call.Goals as goal

pub returns-then-calls-ne-CALL_WORDS : goal.returns-then-calls-ne-CALL_WORDS
returns-then-calls-ne-CALL_WORDS c = search counts-short

pub returns-then-index-ge-NOTES : goal.returns-then-index-ge-NOTES
returns-then-index-ge-NOTES c = search counts-full

pub returns-then-times-ge4294967296 : goal.returns-then-times-ge4294967296
returns-then-times-ge4294967296 c = search counts-many

pub returns-then-index-k : goal.returns-then-index-k
returns-then-index-k c = search counts-more

pub returns : goal.returns
returns c = search counts-new
