-- Handlers of definitions. Assumes nothing.
use Rattle.std.specs.Prelude.{true, false}
use Rattle.machine.specs.Set.{encode}
use Rattle.machine.specs.Media.{destination, title, reference_id}
use Rattle.machine.specs.Command.{Command, ◌▸◌}
use Rattle.machine.specs.Words.{buffer, drop, set, open_media, store, identify, keep_definition}

unfoldable pub on_enter_definition : Command
on_enter_definition = buffer ▸ open_media false

-- the label is taken from the text, not as captured
unfoldable pub on_exit_definition_label_string : Command
on_exit_definition_label_string = drop ▸ identify reference_id

unfoldable pub on_enter_definition_destination_string : Command
on_enter_definition_destination_string = buffer ▸ set encode false

unfoldable pub on_exit_definition_destination_string : Command
on_exit_definition_destination_string = store destination ▸ set encode true

unfoldable pub on_exit_definition_title_string : Command
on_exit_definition_title_string = store title

unfoldable pub on_exit_definition : Command
on_exit_definition = drop ▸ keep_definition
