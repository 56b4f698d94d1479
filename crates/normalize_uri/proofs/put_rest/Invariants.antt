-- The loop's invariant: what is left is to append the bytes from `i` on, whose marks are left too. Assumes nothing.
use Rattle.std.proofs.Common.{◌≡◌, ◌-◌, drop}
use Rattle.lent.proofs.Writing.{Due}
use Rattle.encode.specs.Encode.{encode_of}
use Rattle.url_run.specs.Private.{marks_of, word_of}
use Rattle.normalize_uri.specs.Private.{part_of}
use Rattle.normalize_uri.proofs.put_rest.Given as goal

abbrev pub invariant-loop-i : goal.invariant-loop-i
invariant-loop-i l = (l.marks ≡ word_of (marks_of (l.to - l.i) (drop l.i l.value))) × Due (encode_of l.escaping (part_of (l.to - l.from) (drop l.from l.value))) l.initial.out (encode_of l.escaping (part_of (l.to - l.i) (drop l.i l.value))) l.out
