-- One piece behind the other. Assumes nothing.
use Rattle.write_footnote.proofs.Written.{back-put}
use Rattle.write_footnote.proofs.put_backreference.Goals as goal

pub returns : goal.returns
returns c = search back-put
