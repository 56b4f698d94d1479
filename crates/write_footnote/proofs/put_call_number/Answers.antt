-- One piece behind the other. Assumes nothing.
use Rattle.write_footnote.proofs.Written.{number_put}
use Rattle.write_footnote.proofs.put_call_number.Goals as goal

pub returns : goal.returns
returns c = search number_put
