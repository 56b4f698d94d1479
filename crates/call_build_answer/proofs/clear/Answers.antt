-- Both buffers. Assumes nothing.
use Rattle.call_build_answer.proofs.Laws.{clears}
use Rattle.call_build_answer.proofs.clear.Goals as goal

pub returns : goal.returns
returns c = search clears
