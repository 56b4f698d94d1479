-- Each event is a turn of the walk, for nesting and for all else. Assumes nothing.
use Rattle.check_nesting.proofs.Laws.{at_first}
use Rattle.check_events.proofs.Walked.{walked_none, walked-fields, walked-field, walked-enter, walked-heading, walked-mark, walked_exit, walked-slice, walked-open, walked_all}
use Rattle.check_events.proofs.Nested.{nest-stops, nest-goes}
use Rattle.check_events.proofs.walk.Goals as goal

pub loop-i-init : goal.loop-i-init
loop-i-init c = (search walked_none, search at_first)

pub returns-then-not-fields_hold : goal.returns-then-not-fields_hold
returns-then-not-fields_hold c = search walked-field

pub unnested-requires : goal.unnested-requires
unnested-requires c = (search walked-fields, search nest-stops)

pub loop-i-preserved-then-is_idle_enter : goal.loop-i-preserved-then-is_idle_enter
loop-i-preserved-then-is_idle_enter c = (search walked-enter, search nest-goes)

pub loop-i-preserved-then-e-eq-HEADING_ATX : goal.loop-i-preserved-then-e-eq-HEADING_ATX
loop-i-preserved-then-e-eq-HEADING_ATX c = (search walked-heading, search nest-goes)

pub loop-i-preserved-then-enters : goal.loop-i-preserved-then-enters
loop-i-preserved-then-enters c = (search walked-mark, search nest-goes)

pub loop-i-preserved-then-is_idle_exit : goal.loop-i-preserved-then-is_idle_exit
loop-i-preserved-then-is_idle_exit c = (search walked_exit, search nest-goes)

pub loop-i-preserved : goal.loop-i-preserved
loop-i-preserved c = (search walked-slice, search nest-goes)

pub returns-then-nesting-ne0 : goal.returns-then-nesting-ne0
returns-then-nesting-ne0 c = search walked-open

pub returns : goal.returns
returns c = search walked_all
