-- One piece behind the other. Assumes nothing.
use Rattle.write_section.proofs.Pages.{item-put}
use Rattle.write_section.proofs.put_item.Goals as goal

pub returns : goal.returns
returns c = search item-put
