-- By the digit.
use Rattle.state_context.proofs.Awaited.{no-mark, named, decimal, hexadecimal}
use Rattle.state_context.proofs.waiting_marker.Goals as goal

pub returns-then-d-eq0 : goal.returns-then-d-eq0
returns-then-d-eq0 c = search no-mark

pub returns-then-d-eq1 : goal.returns-then-d-eq1
returns-then-d-eq1 c = search named

pub returns-then-d-eq2 : goal.returns-then-d-eq2
returns-then-d-eq2 c = search decimal

pub returns : goal.returns
returns c = search hexadecimal
