-- The answer from i on is the whole answer.
use mathlib.Core.Path.{◌≡◌}
use Rattle.state_resume.specs.Private.{part, all_spaces}
use Rattle.state_resume.proofs.all_spaces.Given as goal

abbrev pub invariant-loop-i : goal.invariant-loop-i
invariant-loop-i l = all_spaces (part l.w l.i l.to) ≡ all_spaces (part l.w l.from l.to)
