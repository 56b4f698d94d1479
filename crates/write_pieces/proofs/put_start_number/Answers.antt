-- None for 1, and else the number between two texts. Assumes nothing.
use Rattle.write_pieces.proofs.Values.{start-one, start-other}
use Rattle.write_pieces.proofs.put_start_number.Goals as goal

pub returns-then-n-eq1 : goal.returns-then-n-eq1
returns-then-n-eq1 c = search start-one

pub returns : goal.returns
returns c = search start-other
