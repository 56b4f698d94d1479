-- Refused by its lengths, for want of room, or written.
use Rattle.std.proofs.Common.{Ok, refl, rules}
use Rattle.bundle_writer.specs.Packed.{HasPacked}
use Rattle.bundle_writer.proofs.Call.{lengths-wrong, room-lacks, bundle-packed}
use Rattle.bundle_writer.proofs.write.Goals as goal

pub returns-then-not-has_right_lengths : goal.returns-then-not-has_right_lengths
returns-then-not-has_right_lengths c = search lengths-wrong

pub returns-then-out-length : goal.returns-then-out-length
returns-then-out-length c = search room-lacks

pub returns : goal.returns
returns c =
    let a = c.args in
    let e : HasPacked a.text.now a.events.now a.edition a.out.now c.clear_rest.new.self.bytes.now (Ok c.bundle_length-length.result) =
    bundle-packed _ _ _ _ c.has_right_lengths.ensures (search rules) c.bundle_length-length.ensures c.if-out-length.false refl refl c.write_blocks.ensures c.clear_rest.ensures in
    record { answer = e.answer; number = e.number; value = e.value; bytes = search (rules, e.bytes) }
