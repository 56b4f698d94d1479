-- One after the other.
use Rattle.state_context.proofs.Commands.{seq, tag_of}
use Rattle.on_inline.proofs.end_autolink.Goals as goal

pub returns : goal.returns
returns c = seq c.push_slice-r.ensures (tag_of c.push_tag.ensures)
