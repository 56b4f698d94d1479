-- Handlers of rows and cells. Assumes nothing.
use Rattle.machine.specs.Set.{head}
use Rattle.machine.specs.Test.{is, is_past_columns}
use Rattle.machine.specs.Command.{Command, ◌▸◌, whether, missing_cells}
use Rattle.machine.specs.Words.{put, alignment, line_ending_if_needed, buffer, drop, next_column, first_column}

-- a cell past the columns is captured, and dropped
unfoldable pub on_enter_gfm_table_cell : Command
on_enter_gfm_table_cell = whether is_past_columns buffer (line_ending_if_needed ▸ whether (is head) (put "<th") (put "<td") ▸ alignment ▸ put ">")

unfoldable pub on_exit_gfm_table_cell : Command
on_exit_gfm_table_cell = whether is_past_columns drop (whether (is head) (put "</th>") (put "</td>")) ▸ next_column

unfoldable pub on_enter_gfm_table_row : Command
on_enter_gfm_table_row = line_ending_if_needed ▸ put "<tr>"

-- "phantom" cells for a row that is shorter than the delimiter row
unfoldable pub on_exit_gfm_table_row : Command
on_exit_gfm_table_row = missing_cells (on_enter_gfm_table_cell ▸ on_exit_gfm_table_cell) ▸ first_column ▸ line_ending_if_needed ▸ put "</tr>"
