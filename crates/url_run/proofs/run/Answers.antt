-- The count itself. Assumes nothing.
use Rattle.std.proofs.Common.{refl, arith}
use lib.Count.{trailing_le}
use Rattle.url_run.specs.Private.{run_of}
use Rattle.url_run.proofs.run.Goals as goal

pub returns : goal.returns
unfolding run_of
returns c = (refl, omega (arith, trailing_le 64 c.args.word))

pub overflow_cast-result : goal.overflow_cast-result
overflow_cast-result c = record { fits = omega (arith, trailing_le 64 c.args.word) }
