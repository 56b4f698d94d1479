-- Handlers of tables, their heads and bodies. Assumes nothing.
use Rattle.std.specs.Prelude.{true, false}
use Rattle.machine.specs.Set.{head}
use Rattle.machine.specs.Command.{Command, ◌▸◌}
use Rattle.machine.specs.Words.{put, line_ending_if_needed, set, columns, no_columns}

unfoldable pub on_enter_gfm_table : Command
on_enter_gfm_table = columns ▸ line_ending_if_needed ▸ put "<table>"

unfoldable pub on_exit_gfm_table : Command
on_exit_gfm_table = no_columns ▸ line_ending_if_needed ▸ put "</table>"

unfoldable pub on_enter_gfm_table_head : Command
on_enter_gfm_table_head = line_ending_if_needed ▸ put "<thead>" ▸ set head true

unfoldable pub on_exit_gfm_table_head : Command
on_exit_gfm_table_head = set head false ▸ line_ending_if_needed ▸ put "</thead>"

unfoldable pub on_enter_gfm_table_body : Command
on_enter_gfm_table_body = put "<tbody>"

unfoldable pub on_exit_gfm_table_body : Command
on_exit_gfm_table_body = line_ending_if_needed ▸ put "</tbody>"
