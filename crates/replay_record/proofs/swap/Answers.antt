-- By the edition. Assumes nothing.
use Rattle.replay_record.proofs.Fields.{swaps, swaps-not}
use Rattle.std.proofs.Common.{rules}
use Rattle.replay_record.proofs.swap.Goals as goal

pub returns-in-0 : goal.returns-in-0
returns-in-0 c = search (swaps, rules)

pub returns-in_default : goal.returns-in_default
returns-in_default c = search (swaps-not, rules)
