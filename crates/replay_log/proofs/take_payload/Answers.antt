-- By what the records come to. Assumes nothing.
use Rattle.std.proofs.Common.{rules}
use Rattle.replay_log.proofs.Blocks.{payload-came}
use Rattle.replay_log.proofs.take_payload.Goals as goal

pub returns : goal.returns
returns c = search (payload-came, rules)
