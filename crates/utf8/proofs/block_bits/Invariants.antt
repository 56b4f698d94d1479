-- The bits so far, with those of the bytes left, are the block's. Assumes nothing.
use Rattle.std.proofs.Common.{◌≡◌, drop}
use Rattle.utf8.specs.Private.{bits_of}
use Rattle.utf8.proofs.block_bits.Given as goal

abbrev pub invariant-loop-b : goal.invariant-loop-b
invariant-loop-b l = bits_of l.bits (drop l.b-index l.block) ≡ bits_of 0 l.block
