-- Handlers of emphasis, strong, breaks, code text and autolinks. Assumes nothing.
use Rattle.std.specs.Prelude.{true, false}
use Prim.Native.String.{String}
use Rattle.machine.specs.Set.{raw, alt}
use Rattle.machine.specs.Test.{is}
use Rattle.machine.specs.Command.{Command, ◌▸◌}
use Rattle.machine.specs.Words.{unless, tag, put, slice, url, buffer, resume_code, set}

-- ---- emphasis, strong, breaks

unfoldable pub on_enter_emphasis : Command
on_enter_emphasis = tag "<em>"

unfoldable pub on_exit_emphasis : Command
on_exit_emphasis = tag "</em>"

unfoldable pub on_enter_strong : Command
on_enter_strong = tag "<strong>"

unfoldable pub on_exit_strong : Command
on_exit_strong = tag "</strong>"

unfoldable pub on_exit_break : Command
on_exit_break = tag "<br />"

-- ---- code text

unfoldable pub on_enter_raw_text : Command
on_enter_raw_text = set raw true ▸ tag "<code>" ▸ buffer

unfoldable pub on_exit_raw_text : Command
on_exit_raw_text = resume_code ▸ set raw false ▸ tag "</code>"

-- ---- autolinks

unfoldable pub generate_autolink : String → Command
generate_autolink scheme = unless (is alt) (put "<a href=\"" ▸ url scheme ▸ put "\">") ▸ slice ▸ tag "</a>"

unfoldable pub on_exit_autolink_email : Command
on_exit_autolink_email = generate_autolink "mailto:"

unfoldable pub on_exit_autolink_protocol : Command
on_exit_autolink_protocol = generate_autolink ""
