-- What was seen and what is left make up the answer, whatever the test answers.
use Rattle.std.proofs.Common.{ℕ, Bool, ◌≡◌, ◌||◌, drop}
use Rattle.lent.specs.Bytes.{any}
use Rattle.encode.specs.Private.{IsTest}
use Rattle.encode.proofs.has_any.Given as goal

abbrev pub invariant-loop-b : goal.invariant-loop-b
invariant-loop-b g l = (f : ℕ → Bool) → IsTest (goal.F-post g l.test) f → (l.found || any f (drop l.b-index l.block)) ≡ any f l.block
