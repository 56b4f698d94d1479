-- The loop's invariant: the rows that came are counted in the lanes. Assumes nothing.
use Rattle.std.proofs.Common.{◌≡◌, length, take}
use Rattle.std.specs.Slice.Iter.{rchunks_rest, rchunks_size}
use Rattle.bundle_block.proofs.Counted.{Counted}
use Rattle.bundle_block.proofs.weigh_rows.Given as goal

abbrev pub invariant-loop-row : goal.invariant-loop-row
invariant-loop-row l = record {
  size : rchunks_size l.row-iterator ≡ 16;
  front : rchunks_rest l.row-iterator ≡ take (length (rchunks_rest l.row-iterator)) l.rows;
  counted : Counted l.rows l.place (length (rchunks_rest l.row-iterator)) l.once l.by_row;
}
