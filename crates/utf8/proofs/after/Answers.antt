-- By what was due. Assumes nothing.
use Rattle.utf8.proofs.Table.{more-low, more-high, more-last, more-on, first-due}
use Rattle.utf8.proofs.after.Goals as goal

pub returns-then-b-lo : goal.returns-then-b-lo
returns-then-b-lo c = search more-low

pub returns-then-hi-b : goal.returns-then-hi-b
returns-then-hi-b c = search more-high

pub returns-then-left-lt2 : goal.returns-then-left-lt2
returns-then-left-lt2 c = search more-last

pub returns-in-First : goal.returns-in-First
returns-in-First c = search first-due

pub returns-else-left-lt2 : goal.returns-else-left-lt2
returns-else-left-lt2 c = search more-on
