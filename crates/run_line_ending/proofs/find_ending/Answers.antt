-- What is left to walk decides.
use Rattle.run_line_ending.proofs.Laws.{walks, walks-on, found, not_found}
use Rattle.run_line_ending.proofs.find_ending.Goals as goal

pub loop-i-init : goal.loop-i-init
loop-i-init c = search walks

pub returns-then-ends_line : goal.returns-then-ends_line
returns-then-ends_line c = search found

pub loop-i-preserved : goal.loop-i-preserved
loop-i-preserved c = search walks-on

pub returns : goal.returns
returns c = search not_found
