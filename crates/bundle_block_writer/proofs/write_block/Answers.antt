-- The front is put, and its check behind it.
use Rattle.std.proofs.Common.{rules}
use Rattle.bundle_block_writer.proofs.Block.{words-fit, block_written, front-inside}
use Rattle.bundle_block_writer.proofs.write_block.Goals as goal

pub put_payload-requires : goal.put_payload-requires
put_payload-requires c = (search words-fit, search rules)

pub check_from-check-requires : goal.check_from-check-requires
check_from-check-requires c = let a = c.args in front-inside _ _ _ a.payload.now (search rules) (search rules) c.put_words.ensures c.put_payload.ensures

pub returns : goal.returns
returns c = search block_written
