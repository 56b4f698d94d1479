-- By the first byte. Assumes nothing.
use Rattle.std.proofs.Common.{eq-eqb, ne_eqb}
use Rattle.utf8.proofs.second_to.Goals as goal

pub returns-then-b-eq237 : goal.returns-then-b-eq237
returns-then-b-eq237 c = search eq-eqb

pub returns-then-b-eq244 : goal.returns-then-b-eq244
returns-then-b-eq244 c = search (eq-eqb, ne_eqb)

pub returns : goal.returns
returns c = search ne_eqb
