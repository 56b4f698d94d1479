-- A fault ends the count, any other URL adds one, and at the end all are counted. Assumes nothing.
use Rattle.call_links_answer.proofs.Counts.{stops, goes_on, all-ordered}
use Rattle.call_links_answer.proofs.count_ordered.Goals as goal

pub returns-then-end-before : goal.returns-then-end-before
returns-then-end-before c = search stops

pub loop-i-preserved : goal.loop-i-preserved
loop-i-preserved c = search goes_on

pub returns : goal.returns
returns c = search all-ordered
