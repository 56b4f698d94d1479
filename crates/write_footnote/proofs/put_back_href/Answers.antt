-- One piece behind the other. Assumes nothing.
use Rattle.write_footnote.proofs.Written.{back-href-put}
use Rattle.write_footnote.proofs.put_back_href.Goals as goal

pub returns : goal.returns
returns c = search back-href-put
