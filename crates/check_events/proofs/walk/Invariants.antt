-- What is left says what the whole says, of nesting too. Assumes nothing.
use Rattle.check_nesting.proofs.Laws.{Inv}
use Rattle.check_events.proofs.Walked.{Walked}
use Rattle.check_events.proofs.walk.Given as goal

abbrev pub invariant-loop-i : goal.invariant-loop-i
invariant-loop-i l = Walked l.text l.events l.count l.i l.s l.n × Inv l.events l.nesting l.i
