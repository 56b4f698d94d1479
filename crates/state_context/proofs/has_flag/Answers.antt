-- By the digit.
use Rattle.state_context.proofs.Digits.{tells-flag}
use Rattle.state_context.proofs.has_flag.Goals as goal

pub returns : goal.returns
returns c = search tells-flag
