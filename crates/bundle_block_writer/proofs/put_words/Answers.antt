-- One word behind the other.
use Rattle.lent.proofs.Writing.{then}
use Rattle.bundle_block_writer.proofs.put_words.Goals as goal

pub returns : goal.returns
returns c = then (then (then c.put.ensures c.put-2.ensures) c.put-3.ensures) c.put-4.ensures
