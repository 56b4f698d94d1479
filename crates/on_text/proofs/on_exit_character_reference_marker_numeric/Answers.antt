-- One marker.
use Rattle.machine.specs.OnText.{on_exit_character_reference_marker_numeric}
use Rattle.on_text.proofs.on_exit_character_reference_marker_numeric.Goals as goal

pub returns : goal.returns
unfolding on_exit_character_reference_marker_numeric
returns c = c.set_marker.ensures
