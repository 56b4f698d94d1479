-- One after the other.
use Rattle.machine.specs.OnText.{on_enter_html_flow}
use Rattle.machine.specs.OnText.{on_enter_html_text}
use Rattle.state_context.proofs.Commands.{any, sets, seq}
use Rattle.on_text.proofs.on_enter_html_flow.Goals as goal

pub returns : goal.returns
unfolding on_enter_html_flow on_enter_html_text
returns c = seq (any c.line_ending_if_needed-r.ensures) (c.on_enter_html_text.ensures.sets _ _)
