-- The loop's invariant: with the bytes from `b` on, the answer is that for all. Assumes nothing.
use Rattle.std.proofs.Common.{◌&&◌, ◌≡◌, drop}
use Rattle.lent.specs.Bytes.{all}
use Rattle.bundle_block.specs.Block.{is_zero}
use Rattle.bundle_block.proofs.is_zero.Given as goal

abbrev pub invariant-loop-b : goal.invariant-loop-b
invariant-loop-b l = (l.zero && all is_zero (drop l.b-index l.part)) ≡ all is_zero l.part
