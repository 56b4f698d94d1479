-- By the action. Assumes nothing.
use Rattle.std.proofs.Common.{rules}
use Rattle.replay_machine.proofs.Acts.{stage-acted, swap-acted, show-acted}
use Rattle.replay_machine.proofs.act.Goals as goal

pub returns-in-Stage : goal.returns-in-Stage
returns-in-Stage c = search (stage-acted, rules)

pub returns-in-Swap : goal.returns-in-Swap
returns-in-Swap c = search (swap-acted, rules)

pub returns-in-Show : goal.returns-in-Show
returns-in-Show c = search (show-acted, rules)
