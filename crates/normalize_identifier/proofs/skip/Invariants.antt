use Rattle.std.proofs.Common.{◌≡◌, ◌+◌, drop}
use Rattle.normalize_identifier.specs.Identity.{blanks}
use Rattle.normalize_identifier.proofs.skip.Given as goal

abbrev pub invariant-loop-i : goal.invariant-loop-i
invariant-loop-i l = l.i + blanks (drop l.i l.label) ≡ l.from + blanks (drop l.from l.label)
