-- By the first byte. Assumes nothing.
use Rattle.std.proofs.Common.{eq-eqb, ne_eqb}
use Rattle.utf8.proofs.second_from.Goals as goal

pub returns-then-b-eq224 : goal.returns-then-b-eq224
returns-then-b-eq224 c = search eq-eqb

pub returns-then-b-eq240 : goal.returns-then-b-eq240
returns-then-b-eq240 c = search (eq-eqb, ne_eqb)

pub returns : goal.returns
returns c = search ne_eqb
