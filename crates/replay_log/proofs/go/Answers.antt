-- By what the blocks come to. Assumes nothing.
use Rattle.replay_log.proofs.Came.{gone-stopped, gone-going}
use Rattle.std.proofs.Common.{rules}
use Rattle.replay_log.proofs.go.Goals as goal

pub returns-in-Err : goal.returns-in-Err
returns-in-Err c = search (gone-stopped, rules)

pub returns-in-Ok : goal.returns-in-Ok
returns-in-Ok c = search (gone-going, rules)
