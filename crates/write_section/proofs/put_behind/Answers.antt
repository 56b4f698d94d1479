-- One piece behind the other. Assumes nothing.
use Rattle.write_section.proofs.Pages.{behind-put}
use Rattle.write_section.proofs.put_behind.Goals as goal

pub returns : goal.returns
returns c = search behind-put
