-- By the digit.
use Rattle.state_context.proofs.Constants.{is_quoted}
use Rattle.state_context.proofs.apostrophes_in.Goals as goal

pub returns : goal.returns
returns c = search is_quoted
