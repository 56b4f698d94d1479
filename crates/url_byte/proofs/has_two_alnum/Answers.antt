-- Two bytes to look at, or too few. Assumes nothing.
use Rattle.url_byte.proofs.Laws.{two-short, two-there}
use Rattle.url_byte.proofs.has_two_alnum.Goals as goal

pub returns-in-len2-up : goal.returns-in-len2-up
returns-in-len2-up c = search two-there

pub returns-in_default : goal.returns-in_default
returns-in_default c = search two-short
