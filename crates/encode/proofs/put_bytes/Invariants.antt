-- What is left is to append the bytes from the index on.
use Rattle.std.proofs.Common.{drop}
use Rattle.lent.proofs.Writing.{Due}
use Rattle.encode.specs.Encode.{encode_of}
use Rattle.encode.proofs.put_bytes.Given as goal

abbrev pub invariant-loop-b : goal.invariant-loop-b
invariant-loop-b l = Due (encode_of l.escaping l.value) l.initial.out (encode_of l.escaping (drop l.b-index l.value)) l.out
