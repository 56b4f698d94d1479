-- Where the slice is of the text and a marker waits; elsewhere the machine stops.
use Rattle.machine.specs.OnText.{on_exit_character_reference_value}
use Rattle.on_text.proofs.References.{no-reference, no-marker, refers}
use Rattle.on_text.proofs.on_exit_character_reference_value.Goals as goal

pub returns-in_default : goal.returns-in_default
unfolding on_exit_character_reference_value
returns-in_default c = no-reference _ _ c.in_default.ensures.lookup.0

pub returns-in_default-waiting_marker : goal.returns-in_default-waiting_marker
unfolding on_exit_character_reference_value
returns-in_default-waiting_marker c = search no-marker

pub returns : goal.returns
unfolding on_exit_character_reference_value
returns c = refers _ _ c.in-Some-waiting_marker.m c.in-Some.ensures.lookup.0.2 c.waiting_marker.ensures c.in-Some-waiting_marker.is c.names_in-names.ensures c.forget_marker-r.ensures c.escaping_in-escaping.ensures c.push_reference-r.ensures
