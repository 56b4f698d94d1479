-- One piece behind the other. Assumes nothing.
use Rattle.write_section.proofs.Pages.{split-put}
use Rattle.write_section.proofs.put_split.Goals as goal

pub returns : goal.returns
returns c = search split-put
