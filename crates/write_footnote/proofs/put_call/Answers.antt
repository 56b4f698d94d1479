-- One piece behind the other. Assumes nothing.
use Rattle.write_footnote.proofs.Written.{call-put}
use Rattle.write_footnote.proofs.put_call.Goals as goal

pub returns : goal.returns
returns c = search call-put
