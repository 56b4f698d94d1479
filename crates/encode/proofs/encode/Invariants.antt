-- What is left is to append the blocks from the index on, and the rest.
use Rattle.std.proofs.Common.{drop, ◌*◌}
use Rattle.lent.proofs.Writing.{Due}
use Rattle.encode.specs.Encode.{encode_of}
use Rattle.encode.proofs.encode.Given as goal

abbrev pub invariant-loop-block : goal.invariant-loop-block
invariant-loop-block l = Due (encode_of l.escaping l.value) l.initial.out (encode_of l.escaping (drop (l.block-index * 16) l.value)) l.out
