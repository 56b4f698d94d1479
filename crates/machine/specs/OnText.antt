-- Handlers of data, references, line endings, HTML and captures. Assumes nothing.
use Rattle.std.specs.Prelude.{true, false}
use Rattle.character_reference.specs.declared.Marker.TheVariants.{Named, Decimal, Hexadecimal}
use Rattle.machine.specs.Set.{slurp, encode, raw}
use Rattle.machine.specs.Test.{is, is_last, is_html_allowed, is_behind_definition}
use Rattle.machine.specs.Command.{Command, ◌▸◌, whether}
use Rattle.machine.specs.Words.{when, put, slice, reference, line_ending_if_needed, buffer, set, marker, drop}

unfoldable pub on_exit_data : Command
on_exit_data = slice

-- ---- character references

unfoldable pub on_exit_character_reference_marker : Command
on_exit_character_reference_marker = marker Named

unfoldable pub on_exit_character_reference_marker_numeric : Command
on_exit_character_reference_marker_numeric = marker Decimal

unfoldable pub on_exit_character_reference_marker_hexadecimal : Command
on_exit_character_reference_marker_hexadecimal = marker Hexadecimal

unfoldable pub on_exit_character_reference_value : Command
on_exit_character_reference_value = reference

-- ---- line endings

-- one behind a definition is swallowed, as is one that a handler wants swallowed
unfoldable pub on_exit_line_ending : Command
on_exit_line_ending = whether (is raw) (put " ") (whether (is slurp) (set slurp false) (whether is_behind_definition (set slurp false) slice))

unfoldable pub on_exit_blank_line_ending : Command
on_exit_blank_line_ending = set slurp false ▸ when is_last line_ending_if_needed

-- ---- html

unfoldable pub on_enter_html_text : Command
on_enter_html_text = when is_html_allowed (set encode false)

unfoldable pub on_enter_html_flow : Command
on_enter_html_flow = line_ending_if_needed ▸ when is_html_allowed (set encode false)

unfoldable pub on_exit_html : Command
on_exit_html = set encode true

unfoldable pub on_exit_html_data : Command
on_exit_html_data = slice

-- ---- captures

unfoldable pub on_enter_buffer : Command
on_enter_buffer = buffer

unfoldable pub on_exit_drop : Command
on_exit_drop = drop
