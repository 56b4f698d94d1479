-- The first event at fault, or none. Assumes nothing.
use Rattle.std.proofs.Common.{rules}
use Rattle.check_events.proofs.Walked.{fields_at, fields-next, fields-end}
use Rattle.check_events.proofs.unnested.Goals as goal

pub returns-then-not-fields_hold : goal.returns-then-not-fields_hold
returns-then-not-fields_hold c = search fields_at

pub loop-later-preserved : goal.loop-later-preserved
loop-later-preserved c = search fields-next

pub returns : goal.returns
returns c = search (fields-end, rules)
