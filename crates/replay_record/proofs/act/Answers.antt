-- By the action. Assumes nothing.
use Rattle.replay_record.proofs.Fields.{act-0, act-1, act-2, act-3, act-none}
use Rattle.std.proofs.Common.{rules}
use Rattle.replay_record.proofs.act.Goals as goal

pub returns-in-0 : goal.returns-in-0
returns-in-0 c = search (act-0, rules)

pub returns-in-1 : goal.returns-in-1
returns-in-1 c = search (act-1, rules)

pub returns-in-2 : goal.returns-in-2
returns-in-2 c = search (act-2, rules)

pub returns-in-3 : goal.returns-in-3
returns-in-3 c = search (act-3, rules)

pub returns-in_default : goal.returns-in_default
returns-in_default c = search (act-none, rules)
