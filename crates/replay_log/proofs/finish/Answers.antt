-- An odd length, or what is known at the end. Assumes nothing.
use Rattle.replay_log.proofs.Ends.{finished-odd, finished-whole}
use Rattle.std.proofs.Common.{rules}
use Rattle.replay_log.proofs.finish.Goals as goal

pub returns-then-odd-gt0 : goal.returns-then-odd-gt0
returns-then-odd-gt0 c = search (finished-odd, rules)

pub returns : goal.returns
returns c = search (finished-whole, rules)
