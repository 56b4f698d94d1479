-- The buffers alone change.
use Rattle.on_table.proofs.Asked.{aligned}
use Rattle.on_table.proofs.push_alignment.Goals as goal

pub returns : goal.returns
returns c = search aligned
