-- The loop's invariant: what is left is to append the URL's bytes from `i` on. Assumes nothing.
use Rattle.std.proofs.Common.{◌-◌, ◌≤◌, length, drop}
use Rattle.lent.proofs.Writing.{Due}
use Rattle.encode.specs.Encode.{encode_of}
use Rattle.normalize_uri.specs.Url.{normalize_of}
use Rattle.normalize_uri.proofs.put_url.Given as goal

abbrev pub invariant-loop-i : goal.invariant-loop-i
invariant-loop-i l = (l.i ≤ length l.value) × Due (encode_of l.escaping (normalize_of l.value)) l.initial.out (encode_of l.escaping (normalize_of (drop l.i l.value))) l.out

abbrev pub decreases-loop-i : goal.decreases-loop-i
decreases-loop-i l = length l.value - l.i
