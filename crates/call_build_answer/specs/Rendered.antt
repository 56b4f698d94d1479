-- The answer to what a run comes to, and how much of the output stays: no part of a promise, `Builds` has its own. Assumes nothing.
use Rattle.std.specs.Prelude.{ℕ, Result, Ok, Err}
use Rattle.run_answer.specs.declared.Full.{Full}
use Rattle.run_answer.specs.declared.Full.TheVariants as F
use Rattle.call_build_answer.specs.declared.Refusal.TheVariants.{WorkFull, PageFull}
use Rattle.call_build_answer.specs.Built.{Built}

abbrev pub built_of : Result ℕ Full → Built
built_of (Ok n) = Ok n
built_of (Err (F.Work i)) = Err (WorkFull i)
built_of (Err (F.Page i)) = Err (PageFull i)

abbrev pub kept_of : Result ℕ Full → ℕ
kept_of (Ok n) = n
kept_of (Err (F.Work i)) = 0
kept_of (Err (F.Page i)) = 0
