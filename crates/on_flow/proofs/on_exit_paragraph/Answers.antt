-- None in a tight container.
use Rattle.machine.specs.OnFlow.{on_exit_paragraph}
use Rattle.state_context.proofs.Commands.{sets, puts, whether-yes, whether-no}
use Rattle.on_flow.proofs.on_exit_paragraph.Goals as goal

pub returns-then-is_tight : goal.returns-then-is_tight
unfolding on_exit_paragraph
returns-then-is_tight c = search (whether-yes, sets)

pub returns : goal.returns
unfolding on_exit_paragraph
returns c = search (whether-no, puts)
