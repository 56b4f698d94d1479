-- One piece behind the other. Assumes nothing.
use Rattle.write_footnote.proofs.Written.{back-end-put}
use Rattle.write_footnote.proofs.put_back_end.Goals as goal

pub returns : goal.returns
returns c = search back-end-put
