-- What is found from `later` on is what is found at all. Assumes nothing.
use Rattle.check_events.specs.Walk.{FieldsTo}
use Rattle.check_events.proofs.unnested.Given as goal

abbrev pub invariant-loop-later : goal.invariant-loop-later
invariant-loop-later l = FieldsTo l.text l.events l.later
