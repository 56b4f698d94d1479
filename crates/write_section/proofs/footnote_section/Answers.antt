-- Head, items and tail, as the machine writes them. Assumes nothing.
use Rattle.write_section.proofs.Items.{section-put}
use Rattle.std.proofs.Common.{rules}
use Rattle.write_section.proofs.footnote_section.Goals as goal

pub returns : goal.returns
returns c = section-put c.put_head-p.ensures c.put_items-q.ensures c.put_tail.ensures (search rules)
