-- One flag.
use mathlib.Core.Path.{refl}
use Rattle.machine.specs.Set.{encode}
use Rattle.state_context.proofs.set_encode.Goals as goal

pub returns : goal.returns
returns c = c.with_flag.ensures.sets-flag encode refl
