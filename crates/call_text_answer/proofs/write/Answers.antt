-- What was tried, and the rest cleared. Assumes nothing.
use Rattle.std.proofs.Common.{rules}
use Rattle.call_text_answer.proofs.Laws.{wrote}
use Rattle.call_text_answer.proofs.write.Goals as goal

pub returns : goal.returns
returns g c = λ made h. wrote (c.try_write-written.ensures made h) (search rules)
