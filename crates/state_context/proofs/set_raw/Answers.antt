-- One flag.
use mathlib.Core.Path.{refl}
use Rattle.machine.specs.Set.{raw}
use Rattle.state_context.proofs.set_raw.Goals as goal

pub returns : goal.returns
returns c = c.with_flag.ensures.sets-flag raw refl
