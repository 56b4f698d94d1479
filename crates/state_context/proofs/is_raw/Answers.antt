-- By the flag.
use mathlib.Core.Path.{refl}
use Rattle.machine.specs.Set.{raw}
use Rattle.state_context.proofs.is_raw.Goals as goal

pub returns : goal.returns
returns c = c.has_flag.ensures.tells-flag raw refl
