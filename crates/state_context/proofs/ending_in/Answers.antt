-- By the digit.
use Rattle.state_context.proofs.Constants.{is-lf, is-cr, is-crlf}
use Rattle.state_context.proofs.ending_in.Goals as goal

pub returns-then-d-eq0 : goal.returns-then-d-eq0
returns-then-d-eq0 c = search is-lf

pub returns-then-d-eq1 : goal.returns-then-d-eq1
returns-then-d-eq1 c = search is-cr

pub returns : goal.returns
returns c = search is-crlf
