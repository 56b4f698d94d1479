-- A byte or none.
use Rattle.state_resume.proofs.Moves.{keep-not, keep-it}
use Rattle.state_resume.proofs.keep.Goals as goal

pub returns-then-gone : goal.returns-then-gone
returns-then-gone c = search keep-not

pub returns : goal.returns
returns c = search keep-it
