-- Where there is room for both.
use Rattle.state_resume.proofs.Moves.{inserted, not-inserted}
use Rattle.state_resume.proofs.insert.Goals as goal

pub returns-then-w-to : goal.returns-then-w-to
returns-then-w-to c = search not-inserted

pub returns : goal.returns
returns c = search inserted
