-- By how many leading ones there are. Assumes nothing.
use Rattle.std.proofs.Common.{arith}
use Rattle.utf8.proofs.Table.{ones_none, ones-one, ones-many, ones-few}
use Rattle.utf8.proofs.char_len.Goals as goal

pub returns-then-ones-eq0 : goal.returns-then-ones-eq0
returns-then-ones-eq0 c = search ones_none

pub returns-then-ones-eq1 : goal.returns-then-ones-eq1
returns-then-ones-eq1 c = search ones-one

pub returns-then-ones-gt4 : goal.returns-then-ones-gt4
returns-then-ones-gt4 c = ones-many _ (omega arith) (omega arith)

pub returns : goal.returns
returns c = search ones-few
