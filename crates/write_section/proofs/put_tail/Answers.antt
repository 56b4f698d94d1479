-- One piece behind the other. Assumes nothing.
use Rattle.write_section.proofs.Pages.{tail-put}
use Rattle.write_section.proofs.put_tail.Goals as goal

pub returns : goal.returns
returns c = search tail-put
