-- An & or a ', or percent-encoded. Assumes nothing.
use Rattle.lent.proofs.Writing.{by}
use Rattle.url_byte.proofs.Laws.{marked-quoted, marked_other}
use Rattle.url_byte.proofs.put_marked_byte.Goals as goal

pub returns-then-b : goal.returns-then-b
returns-then-b c = search (by, marked-quoted)

pub returns : goal.returns
returns c = search (by, marked_other)
