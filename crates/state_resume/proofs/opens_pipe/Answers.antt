-- By the two bytes, where there are two.
use Rattle.state_resume.proofs.Moves.{opens-none, opens-two}
use Rattle.state_resume.proofs.opens_pipe.Goals as goal

pub returns-then-to-i-lt2 : goal.returns-then-to-i-lt2
returns-then-to-i-lt2 c = search opens-none

pub returns : goal.returns
returns c = search opens-two
