-- Handlers of setext headings. Assumes nothing.
use Rattle.std.specs.Prelude.{true}
use Rattle.machine.specs.Set.{slurp}
use Rattle.machine.specs.Test.{is_underlined_by_dashes}
use Rattle.machine.specs.Command.{Command, ◌▸◌, whether}
use Rattle.machine.specs.Words.{put, line_ending_if_needed, hold, release, set}

unfoldable pub on_exit_heading_setext_text : Command
on_exit_heading_setext_text = hold ▸ set slurp true

unfoldable pub setext_rank : Command
setext_rank = whether is_underlined_by_dashes (put "2") (put "1")

unfoldable pub on_exit_heading_setext_underline_sequence : Command
on_exit_heading_setext_underline_sequence = line_ending_if_needed ▸ put "<h" ▸ setext_rank ▸ put ">" ▸ release ▸ put "</h" ▸ setext_rank ▸ put ">"
