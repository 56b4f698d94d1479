-- Std and the definition name the same letters. Assumes nothing.
use Rattle.std.proofs.Common.{arith}
use Rattle.std.proofs.lemmas.Grind.{common_steps}
use Rattle.normalize_identifier.proofs.fold.Goals as goal
use Rattle.normalize_identifier.specs.Identity.{folded}

pub returns : goal.returns
unfolding folded
returns c = grind (arith, common_steps)
