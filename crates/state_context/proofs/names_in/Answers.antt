-- By the digit.
use Rattle.state_context.proofs.Constants.{is-html4, is-html5}
use Rattle.state_context.proofs.names_in.Goals as goal

pub returns-then-digit-eq0 : goal.returns-then-digit-eq0
returns-then-digit-eq0 c = search is-html4

pub returns : goal.returns
returns c = search is-html5
