-- By the alignment. Assumes nothing.
use Rattle.write_pieces.proofs.Values.{align-none, align-left, align-right, align-center}
use Rattle.write_pieces.proofs.put_align.Goals as goal

pub returns-in-0 : goal.returns-in-0
returns-in-0 c = search align-none

pub returns-in-1 : goal.returns-in-1
returns-in-1 c = search align-left

pub returns-in-2 : goal.returns-in-2
returns-in-2 c = search align-right

pub returns-in_default : goal.returns-in_default
returns-in_default c = search align-center
