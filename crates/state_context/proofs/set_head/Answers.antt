-- One flag.
use mathlib.Core.Path.{refl}
use Rattle.machine.specs.Set.{head}
use Rattle.state_context.proofs.set_head.Goals as goal

pub returns : goal.returns
returns c = c.with_flag.ensures.sets-flag head refl
