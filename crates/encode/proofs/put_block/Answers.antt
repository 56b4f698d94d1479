-- A block whose bytes all stay is copied. Assumes nothing.
use Rattle.lent.proofs.Writing.{by}
use Rattle.encode.proofs.Laws.{plain-block}
use Rattle.encode.proofs.put_block.Goals as goal

pub returns : goal.returns
returns c = search (by, plain-block)
