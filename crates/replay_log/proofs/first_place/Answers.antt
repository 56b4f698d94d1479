-- By the bytes of block 0. Assumes nothing.
use Rattle.replay_log.proofs.Ends.{placed}
use Rattle.replay_log.proofs.first_place.Goals as goal

pub returns : goal.returns
returns c = search placed
