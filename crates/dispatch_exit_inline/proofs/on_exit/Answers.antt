-- By the range of the name. Assumes nothing.
use Rattle.dispatch_exit_inline.proofs.Names.{low, high}
use Rattle.dispatch_exit_inline.proofs.on_exit.Goals as goal

pub returns-then-e-lt-PARAGRAPH : goal.returns-then-e-lt-PARAGRAPH
returns-then-e-lt-PARAGRAPH c = low c.if-e-lt-PARAGRAPH.true c.exit_data.ensures

pub returns : goal.returns
returns c = high c.if-e-lt-PARAGRAPH.false c.exit_inline.ensures
