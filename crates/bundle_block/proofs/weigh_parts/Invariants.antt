-- The loop's invariant: the sum so far and that of the rows that are left are the whole. Assumes nothing.
use Rattle.std.proofs.Common.{◌≡◌, ◌+◌, ◌%◌, length}
use Rattle.std.specs.Slice.Iter.{chunks_rest, chunks_size}
use Rattle.bundle_block.specs.Block.{weighed, check_of}
use Rattle.bundle_block.proofs.weigh_parts.Given as goal

abbrev pub invariant-loop-part : goal.invariant-loop-part
invariant-loop-part l = record {
  size : chunks_size l.part-iterator ≡ 256;
  place : l.place + length (chunks_rest l.part-iterator) ≡ length l.rows;
  whole : length (chunks_rest l.part-iterator) % 16 ≡ 0;
  sums : l.sum + weighed l.place (chunks_rest l.part-iterator) ≡ check_of l.rows;
}
