-- The marks up to the index are made.
use Rattle.std.proofs.Common.{◌≡◌, take, drop}
use Rattle.url_run.specs.Private.{marks_of}
use Rattle.url_run.proofs.mark_all.Given as goal

abbrev pub invariant-loop-k : goal.invariant-loop-k
invariant-loop-k l = take l.k l.marks ≡ marks_of l.k (drop l.i l.value)
