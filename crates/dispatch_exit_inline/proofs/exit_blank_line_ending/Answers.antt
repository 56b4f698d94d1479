-- By the count of the events. Assumes nothing.
use Rattle.dispatch_exit_inline.proofs.Views.{at-end}
use Rattle.dispatch_exit_inline.proofs.exit_blank_line_ending.Goals as goal

pub returns : goal.returns
returns c = at-end c.count.ensures c.on_exit_blank_line_ending.ensures
