-- The loop's invariant: the bytes from `i` on decide as the whole text does. Assumes nothing.
use Rattle.std.proofs.Common.{◌≡◌, ◌-◌, length, drop}
use Rattle.utf8.specs.Table.{is_whole}
use Rattle.utf8.specs.Utf8.{run, is_utf8}
use Rattle.utf8.proofs.is_utf8.Given as goal

abbrev pub invariant-loop-i : goal.invariant-loop-i
invariant-loop-i l = is_whole (run l.due (drop l.i l.s)) ≡ is_utf8 l.s

abbrev pub decreases-loop-i : goal.decreases-loop-i
decreases-loop-i l = length l.s - l.i
