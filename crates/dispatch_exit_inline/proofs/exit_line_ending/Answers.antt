-- By the look back at two events before. Assumes nothing.
use Rattle.dispatch_exit_inline.proofs.Views.{behind}
use Rattle.dispatch_exit_inline.proofs.exit_line_ending.Goals as goal

pub returns : goal.returns
returns c = behind c.behind_definition-behind.ensures c.on_exit_line_ending.ensures
