-- One piece behind the other. Assumes nothing.
use Rattle.write_section.proofs.Pages.{head-put}
use Rattle.write_section.proofs.put_head.Goals as goal

pub returns : goal.returns
returns c = search head-put
