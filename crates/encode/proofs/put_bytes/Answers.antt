-- One more byte, or none left. Assumes nothing.
use Rattle.lent.proofs.Writing.{step, done}
use Rattle.encode.proofs.Laws.{byte_more, byte-end}
use Rattle.encode.proofs.put_bytes.Goals as goal

pub loop-b-preserved : goal.loop-b-preserved
loop-b-preserved c = search (step, byte_more)

pub returns : goal.returns
returns c = search (done, byte-end)
