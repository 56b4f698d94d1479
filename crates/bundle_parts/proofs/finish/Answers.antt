-- By whether all has come. Assumes nothing.
use Rattle.bundle_parts.proofs.Calls.{finished-whole, finished-broken}
use Rattle.bundle_parts.proofs.finish.Goals as goal

pub returns-then-is_whole-over : goal.returns-then-is_whole-over
returns-then-is_whole-over c = search finished-whole

pub returns : goal.returns
returns c = search finished-broken
