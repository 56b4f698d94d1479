-- By the byte that stands at the place. Assumes nothing.
use Rattle.std.proofs.Common.{arith}
use Rattle.utf8.proofs.Walk.{past_end, starts-low, by-top}
use Rattle.utf8.proofs.is_inside.Goals as goal

pub returns-then-s-i : goal.returns-then-s-i
returns-then-s-i c = past_end _ _ (omega arith)

pub returns-then-b-lt128 : goal.returns-then-b-lt128
returns-then-b-lt128 c = search starts-low

pub returns : goal.returns
returns c = search by-top
