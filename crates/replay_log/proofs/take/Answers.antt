-- By what is known. Assumes nothing.
use Rattle.replay_log.proofs.Came.{steady-going, first-within, took-stopped, took-going, took-first, took-none}
use Rattle.std.proofs.Common.{rules}
use Rattle.replay_log.proofs.take.Goals as goal

pub go-requires : goal.go-requires
go-requires c = search (steady-going, rules)

pub returns-then-blocks-lt-BLOCK : goal.returns-then-blocks-lt-BLOCK
returns-then-blocks-lt-BLOCK c = search (took-none, rules)

pub go-requires-in-Empty : goal.go-requires-in-Empty
go-requires-in-Empty c = search (first-within, rules)

pub returns-in-Stopped : goal.returns-in-Stopped
returns-in-Stopped c = search (took-stopped, rules)

pub returns-in-Going : goal.returns-in-Going
returns-in-Going c = search (took-going, took-first, rules)

pub returns-else-blocks-lt-BLOCK : goal.returns-else-blocks-lt-BLOCK
returns-else-blocks-lt-BLOCK c = search (took-going, took-first, rules)
