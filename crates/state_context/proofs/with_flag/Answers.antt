-- The digit is 1 or 0.
use Rattle.state_context.proofs.Digits.{flag-set}
use Rattle.state_context.proofs.with_flag.Goals as goal

pub returns : goal.returns
returns c = search flag-set
