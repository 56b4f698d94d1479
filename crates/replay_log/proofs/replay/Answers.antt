-- Nothing came before the log. Assumes nothing.
use Rattle.replay_log.proofs.Ends.{called}
use Rattle.std.proofs.Common.{rules}
use Rattle.replay_log.proofs.replay.Goals as goal

pub returns : goal.returns
returns c = search (called, rules)
