-- Each by itself.
use Rattle.state_context.proofs.Constants.{all_read}
use Rattle.state_context.proofs.fixed_in.Goals as goal

pub returns : goal.returns
returns c = search all_read
