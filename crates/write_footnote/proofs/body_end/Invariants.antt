-- The loop's invariant: what stands up to `i` ends where the body does. Assumes nothing.
use Rattle.std.proofs.Common.{◌≡◌, take}
use Rattle.machine.specs.Section.{body_end}
use Rattle.write_footnote.proofs.body_end.Given as goal

abbrev pub invariant-loop-i : goal.invariant-loop-i
invariant-loop-i l = body_end (take l.i l.body) ≡ body_end l.body
