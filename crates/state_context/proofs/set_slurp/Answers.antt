-- One flag.
use mathlib.Core.Path.{refl}
use Rattle.machine.specs.Set.{slurp}
use Rattle.state_context.proofs.set_slurp.Goals as goal

pub returns : goal.returns
returns c = c.with_flag.ensures.sets-flag slurp refl
