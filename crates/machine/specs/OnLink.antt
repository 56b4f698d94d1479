-- Handlers of links and images up to their ends. Assumes nothing.
use Rattle.std.specs.Prelude.{true, false}
use Rattle.machine.specs.Set.{encode, alt}
use Rattle.machine.specs.Media.{label, destination, title, label_id, reference_id}
use Rattle.machine.specs.Command.{Command, ◌▸◌}
use Rattle.machine.specs.Words.{buffer, drop, set, open_media, store, empty_destination, identify}

unfoldable pub on_enter_link : Command
on_enter_link = open_media false

-- disallow tags
unfoldable pub on_enter_image : Command
on_enter_image = open_media true ▸ set alt true

unfoldable pub on_exit_label : Command
on_exit_label = store label

unfoldable pub on_exit_label_text : Command
on_exit_label_text = identify label_id

unfoldable pub on_exit_reference_string : Command
on_exit_reference_string = drop ▸ identify reference_id

-- line endings in the resource are captured, and dropped
unfoldable pub on_enter_resource : Command
on_enter_resource = buffer ▸ empty_destination

unfoldable pub on_enter_resource_destination_string : Command
on_enter_resource_destination_string = buffer ▸ set encode false

unfoldable pub on_exit_resource_destination_string : Command
on_exit_resource_destination_string = store destination ▸ set encode true

unfoldable pub on_exit_resource_title_string : Command
on_exit_resource_title_string = store title
