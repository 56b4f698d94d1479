-- One piece behind the other. Assumes nothing.
use Rattle.write_footnote.proofs.Written.{id-put}
use Rattle.write_footnote.proofs.put_call_id.Goals as goal

pub returns : goal.returns
returns c = search id-put
