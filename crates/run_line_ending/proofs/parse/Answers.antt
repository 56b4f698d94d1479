-- By the first byte and the length.
use Rattle.run_line_ending.proofs.Laws.{outside, feed, empty, return_alone, both}
use Rattle.run_line_ending.proofs.parse.Goals as goal

pub returns-then-text-from : goal.returns-then-text-from
returns-then-text-from c = search outside

pub returns-then-text-from-eq10 : goal.returns-then-text-from-eq10
returns-then-text-from-eq10 c = search feed

pub returns-then-to-from : goal.returns-then-to-from
returns-then-to-from c = search empty

pub returns-then-to-from-eq1 : goal.returns-then-to-from-eq1
returns-then-to-from-eq1 c = search return_alone

pub returns : goal.returns
returns c = search both
