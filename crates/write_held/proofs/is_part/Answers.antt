-- By the places. Assumes nothing.
use Rattle.write_held.proofs.Pushed.{too-low, too_many, so-many}
use Rattle.write_held.proofs.is_part.Goals as goal

pub returns-then-from-lt-HELD_AT : goal.returns-then-from-lt-HELD_AT
returns-then-from-lt-HELD_AT c = search too-low

pub returns-then-len-n : goal.returns-then-len-n
returns-then-len-n c = search too_many

pub returns : goal.returns
returns c = search so-many
