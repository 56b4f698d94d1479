-- None yet.
use mathlib.Core.Path.{refl}
use mathlib.Core.Option.{some}
use Rattle.state_context.proofs.Fences.{fenced}
use Rattle.state_context.proofs.open_fences.Goals as goal

pub returns : goal.returns
returns c = fenced (some 0) refl c.with_digit.ensures
