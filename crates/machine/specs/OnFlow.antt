-- Handlers of paragraphs, quotes and code blocks. Assumes nothing.
use Rattle.std.specs.Prelude.{true, false}
use Rattle.std.proofs.Math.Option.{none, some}
use Rattle.machine.specs.Set.{slurp}
use Rattle.machine.specs.Test.{is_tight, is_in_container, has_seen_data, is_first_fence, is_fenced_once, is_fence_missing, is_behind_fence}
use Rattle.machine.specs.Command.{Command, ◌▸◌, whether}
use Rattle.machine.specs.Words.{when, unless, put, chunk, line_ending, line_ending_if_needed, resume, set, open_container, close_container, seen_data, fences, count_fence}

-- ---- paragraphs, quotes, thematic breaks

unfoldable pub on_enter_paragraph : Command
on_enter_paragraph = unless is_tight (line_ending_if_needed ▸ put "<p>")

unfoldable pub on_exit_paragraph : Command
on_exit_paragraph = whether is_tight (set slurp true) (put "</p>")

unfoldable pub on_enter_block_quote : Command
on_enter_block_quote = open_container false ▸ line_ending_if_needed ▸ put "<blockquote>"

unfoldable pub on_exit_block_quote : Command
on_exit_block_quote = close_container ▸ line_ending_if_needed ▸ set slurp false ▸ put "</blockquote>"

unfoldable pub on_exit_thematic_break : Command
on_exit_thematic_break = line_ending_if_needed ▸ put "<hr />"

-- ---- code blocks

unfoldable pub on_enter_code_indented : Command
on_enter_code_indented = seen_data (some false) ▸ line_ending_if_needed ▸ put "<pre><code>"

-- no > yet: the info comes first
unfoldable pub on_enter_raw_flow : Command
on_enter_raw_flow = seen_data (some false) ▸ line_ending_if_needed ▸ put "<pre><code" ▸ fences (some 0)

unfoldable pub on_exit_raw_flow_fence : Command
on_exit_raw_flow_fence = when is_first_fence (put ">" ▸ set slurp true) ▸ count_fence

unfoldable pub on_exit_raw_flow_fence_info : Command
on_exit_raw_flow_fence_info = resume " class=\"language-" "\""

unfoldable pub on_exit_raw_flow_chunk : Command
on_exit_raw_flow_chunk = seen_data (some true) ▸ chunk

-- in a container the line ending behind code that has no closing fence belongs to the code
unfoldable pub on_exit_raw_flow : Command
on_exit_raw_flow =
    when is_fenced_once (when is_in_container (unless is_behind_fence line_ending))
    ▸ when has_seen_data line_ending_if_needed
    ▸ seen_data none
    ▸ put "</code></pre>"
    ▸ when is_fence_missing line_ending_if_needed
    ▸ fences none
    ▸ set slurp false
