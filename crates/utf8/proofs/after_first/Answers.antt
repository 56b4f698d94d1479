-- By the first byte's range. Assumes nothing.
use Rattle.std.proofs.Common.{arith}
use Rattle.utf8.proofs.Table.{ascii-due, low-wrong, high-wrong, some, few-more, more-due}
use Rattle.utf8.proofs.after_first.Goals as goal

pub returns-then-b-lt128 : goal.returns-then-b-lt128
returns-then-b-lt128 c = search ascii-due

pub returns-then-b-lt194 : goal.returns-then-b-lt194
returns-then-b-lt194 c = low-wrong _ (omega arith) (omega arith)

pub returns-then-b-gt244 : goal.returns-then-b-gt244
returns-then-b-gt244 c = high-wrong _ (omega arith)

pub overflow_sub-result : goal.overflow_sub-result
overflow_sub-result c = some _ _ c.char_len.ensures (omega arith) (omega arith)

pub overflow_cast-result : goal.overflow_cast-result
overflow_cast-result c = search few-more

pub returns : goal.returns
returns c = search more-due
