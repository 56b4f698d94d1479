use Rattle.run_next.proofs.Left.{wanted-first, wanted-second}
use Rattle.run_next.proofs.is_wanted.Goals as goal

pub returns-then-definitions : goal.returns-then-definitions
returns-then-definitions c = wanted-first _ _ c.is_here.ensures c.if-definitions.true

pub returns : goal.returns
returns c = wanted-second _ _ c.is_here-2.ensures c.if-definitions.false
