-- By whether the name is of what stands in a line. Assumes nothing.
use Rattle.dispatch_handle.proofs.Laws.{quiet-text, quiet-flow}
use Rattle.dispatch_handle.proofs.handle_exit.Goals as goal

pub returns-then-is_text : goal.returns-then-is_text
returns-then-is_text c = quiet-text c.requires.1 c.is_text.ensures c.if-is_text.true c.on_exit.ensures

pub returns : goal.returns
returns c = quiet-flow c.requires.1 c.is_text.ensures c.if-is_text.false c.on_exit-2.ensures
