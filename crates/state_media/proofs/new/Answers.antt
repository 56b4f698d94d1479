-- Nothing is open.
use Rattle.std.proofs.Common.{refl}
use Rattle.state_media.proofs.new.Goals as goal

pub returns : goal.returns
returns c = let e = c.bare-media.ensures in rw e refl
