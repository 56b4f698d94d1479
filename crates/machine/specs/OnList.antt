-- Handlers of lists. Assumes nothing.
use Rattle.std.specs.Prelude.{true, false}
use Rattle.machine.specs.Set.{slurp}
use Rattle.machine.specs.Test.{is_ordered, is_loose, is_first_marker, is_tight_paragraph, is_empty_item}
use Rattle.machine.specs.Command.{Command, ◌▸◌, whether}
use Rattle.machine.specs.Words.{when, unless, put, start, line_ending, line_ending_if_needed, set, open_container, close_container, first}

-- no > yet: the first item's value comes first
unfoldable pub on_enter_list : Command
on_enter_list = whether is_loose (open_container false) (open_container true) ▸ line_ending_if_needed ▸ whether is_ordered (put "<ol") (put "<ul") ▸ first true

unfoldable pub on_exit_list : Command
on_exit_list = close_container ▸ line_ending ▸ whether is_ordered (put "</ol>") (put "</ul>")

unfoldable pub on_enter_list_item_marker : Command
on_enter_list_item_marker = when is_first_marker (put ">") ▸ line_ending_if_needed ▸ put "<li>" ▸ first false

unfoldable pub on_exit_list_item_value : Command
on_exit_list_item_value = when is_first_marker start

-- no line ending behind a tight paragraph or in an empty item
unfoldable pub on_exit_list_item : Command
on_exit_list_item = set slurp false ▸ unless is_tight_paragraph (unless is_empty_item line_ending_if_needed) ▸ put "</li>"
