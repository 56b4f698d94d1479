-- The payload is put into eight bytes of its own, then the block.
use Rattle.std.proofs.Common.{refl, rules, ◌≡◌, ◌++◌, ◌/◌}
use Rattle.bundle_block.specs.Block.{little}
use Rattle.bundle_read.specs.Sizes.{record_size}
use Rattle.bundle_writer.proofs.Parts.{words-written}
use Rattle.bundle_writer.proofs.write_header.Goals as goal

pub returns : goal.returns
returns c =
    let e : c.put-2.new.out.bytes.now ≡ little 4 c.args.text ++ little 4 (c.args.events / record_size) = words-written _ _ refl refl c.put.ensures c.put-2.ensures in
    search (rules, e)
