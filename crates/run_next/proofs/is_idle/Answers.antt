-- By the bit of the name. Assumes nothing.
use Rattle.run_next.proofs.Laws.{beyond, idle-enter, idle-exit}
use Rattle.run_next.proofs.is_idle.Goals as goal

pub returns-then-name-gt63 : goal.returns-then-name-gt63
returns-then-name-gt63 c = beyond

pub returns-then-kind-eq-ENTER : goal.returns-then-kind-eq-ENTER
returns-then-kind-eq-ENTER c = idle-enter c.if-name-gt63.false c.if-kind-eq-ENTER.true

pub returns : goal.returns
returns c = idle-exit c.if-name-gt63.false c.if-kind-eq-ENTER.false
