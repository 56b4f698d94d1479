-- One flag.
use mathlib.Core.Path.{refl}
use Rattle.machine.specs.Set.{alt}
use Rattle.state_context.proofs.set_alt.Goals as goal

pub returns : goal.returns
returns c = c.with_flag.ensures.sets-flag alt refl
