-- Handlers of atx headings. Assumes nothing.
use Rattle.machine.specs.Test.{has_rank}
use Rattle.machine.specs.Command.{Command, ◌▸◌}
use Rattle.machine.specs.Words.{unless, put, rank, line_ending_if_needed, resume, keep_rank, forget_rank}

-- the first sequence gives the rank
unfoldable pub on_exit_heading_atx_sequence : Command
on_exit_heading_atx_sequence = unless has_rank (line_ending_if_needed ▸ keep_rank ▸ put "<h" ▸ rank ▸ put ">")

unfoldable pub on_exit_heading_atx_text : Command
on_exit_heading_atx_text = resume "" ""

unfoldable pub on_exit_heading_atx : Command
on_exit_heading_atx = put "</h" ▸ rank ▸ put ">" ▸ forget_rank
