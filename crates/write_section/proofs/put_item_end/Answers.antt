-- One piece behind the other. Assumes nothing.
use Rattle.write_section.proofs.Pages.{item-end-put}
use Rattle.write_section.proofs.put_item_end.Goals as goal

pub returns : goal.returns
returns c = search item-end-put
