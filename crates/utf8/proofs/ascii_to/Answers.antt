-- A byte that is none ends the run; one that is goes on it; and the text ends. Assumes nothing.
use Rattle.utf8.proofs.Walk.{one, stop, end, all-run}
use Rattle.utf8.proofs.ascii_to.Goals as goal

pub returns-then-s-from : goal.returns-then-s-from
returns-then-s-from c = search end

pub returns-then-s-from-gt127 : goal.returns-then-s-from-gt127
returns-then-s-from-gt127 c = search stop

pub returns-then-s-at-gt127 : goal.returns-then-s-at-gt127
returns-then-s-at-gt127 c = search stop

pub loop-at-preserved : goal.loop-at-preserved
loop-at-preserved c = search one

pub returns : goal.returns
returns c = search all-run
