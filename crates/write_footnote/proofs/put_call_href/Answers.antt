-- One piece behind the other. Assumes nothing.
use Rattle.write_footnote.proofs.Written.{href-put}
use Rattle.write_footnote.proofs.put_call_href.Goals as goal

pub returns : goal.returns
returns c = search href-put
