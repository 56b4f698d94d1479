-- Set or not, as the test says. Assumes nothing.
use Rattle.url_byte.proofs.Marks.{mark-set}
use Rattle.url_byte.proofs.mark.Goals as goal

pub returns : goal.returns
returns c = search mark-set
