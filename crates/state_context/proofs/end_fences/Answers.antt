-- None to count.
use mathlib.Core.Path.{refl}
use mathlib.Core.Option.{none}
use Rattle.state_context.proofs.Fences.{fenced}
use Rattle.state_context.proofs.end_fences.Goals as goal

pub returns : goal.returns
returns c = fenced none refl c.with_digit.ensures
