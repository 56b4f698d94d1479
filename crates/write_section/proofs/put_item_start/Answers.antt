-- One piece behind the other. Assumes nothing.
use Rattle.write_section.proofs.Pages.{item-start-put}
use Rattle.write_section.proofs.put_item_start.Goals as goal

pub returns : goal.returns
returns c = search item-start-put
