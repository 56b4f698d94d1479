-- Handlers of footnotes. Assumes nothing.
use Rattle.std.specs.Prelude.{false}
use Rattle.machine.specs.Command.{Command, ◌▸◌}
use Rattle.machine.specs.Words.{buffer, drop, open_container, close_container, open_media, footnote_label, keep_footnote, call}

unfoldable pub on_enter_gfm_footnote_call : Command
on_enter_gfm_footnote_call = open_media false

unfoldable pub on_exit_gfm_footnote_call : Command
on_exit_gfm_footnote_call = call

unfoldable pub on_enter_gfm_footnote_definition : Command
on_enter_gfm_footnote_definition = open_container false

unfoldable pub on_exit_gfm_footnote_definition_label_string : Command
on_exit_gfm_footnote_definition_label_string = footnote_label

-- drop the prefix; capture everything until the end of the definition
unfoldable pub on_exit_gfm_footnote_definition_prefix : Command
on_exit_gfm_footnote_definition_prefix = drop ▸ buffer

unfoldable pub on_exit_gfm_footnote_definition : Command
on_exit_gfm_footnote_definition = keep_footnote ▸ close_container
