-- By the places.
use Rattle.regions.proofs.Moves.{too_many, too_far, too_short, too-high, below, above}
use Rattle.regions.proofs.is_apart.Goals as goal

pub returns-then-len-n : goal.returns-then-len-n
returns-then-len-n c = search too_many

pub returns-then-len-n-2 : goal.returns-then-len-n-2
returns-then-len-n-2 c = search too_far

pub returns-then-len-lt-SIZE : goal.returns-then-len-lt-SIZE
returns-then-len-lt-SIZE c = search too_short

pub returns-then-len-to : goal.returns-then-len-to
returns-then-len-to c = search too-high

pub returns-then-from-n : goal.returns-then-from-n
returns-then-from-n c = search below

pub returns : goal.returns
returns c = search above
