-- By the flag's digit and the choice.
use Rattle.state_context.proofs.Constants.{escaping-read}
use Rattle.state_context.proofs.escaping_in.Goals as goal

pub returns : goal.returns
returns c = search escaping-read
