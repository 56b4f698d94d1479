-- The payload, then zeros in the part behind it.
use Rattle.std.proofs.Common.{rules, refl, ◌-◌, length}
use Rattle.lent.proofs.Laws.{both}
use Rattle.bundle_block_writer.proofs.Block.{zeros-put, rest-fits}
use Rattle.bundle_block_writer.proofs.put_payload.Goals as goal

pub slice_bounds-clear-end : goal.slice_bounds-clear-end
slice_bounds-clear-end c = search (rest-fits, rules)

pub returns : goal.returns
returns c =
    let p = c.put_all.ensures in
    let h = c.requires in
    let n = length c.args.payload.now in
    record {
      filled = both p.filled (zeros-put c.put_all.new.self.bytes.now c.clear.new.out c.put_all.new.self.at _ (500 - n) refl (rest-fits h.0 h.1 p) c.clear.ensures);
      same = p.same;
    }
