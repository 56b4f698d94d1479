-- By the flag.
use mathlib.Core.Path.{refl}
use Rattle.machine.specs.Set.{alt}
use Rattle.state_context.proofs.is_alt.Goals as goal

pub returns : goal.returns
returns c = c.has_flag.ensures.tells-flag alt refl
