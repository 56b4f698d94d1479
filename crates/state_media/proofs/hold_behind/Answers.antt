-- By the bytes carried.
use Rattle.state_media.proofs.Stored.{held-behind}
use Rattle.state_media.proofs.hold_behind.Goals as goal

pub returns : goal.returns
returns c = search held-behind
