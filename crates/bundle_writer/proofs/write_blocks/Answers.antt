-- One part behind the other.
use Rattle.std.proofs.Common.{rules}
use Rattle.bundle_writer.proofs.Parts.{text-room, events-room, blocks-written}
use Rattle.bundle_writer.proofs.write_blocks.Goals as goal

pub write_part-middle-requires : goal.write_part-middle-requires
write_part-middle-requires c = (search rules, search rules, search rules, search text-room, search rules)

pub write_part-requires : goal.write_part-requires
write_part-requires c = (search rules, search rules, search rules, search events-room, search rules)

pub returns : goal.returns
returns c = search blocks-written
