-- One marker.
use Rattle.machine.specs.OnText.{on_exit_character_reference_marker_hexadecimal}
use Rattle.on_text.proofs.on_exit_character_reference_marker_hexadecimal.Goals as goal

pub returns : goal.returns
unfolding on_exit_character_reference_marker_hexadecimal
returns c = c.set_marker.ensures
