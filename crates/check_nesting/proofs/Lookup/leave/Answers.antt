-- By the cases of an exit: each is a law. Assumes nothing.
use Rattle.check_nesting.proofs.Look.{of-older, goes_through, unfinished, finished}
use Rattle.check_nesting.proofs.Lookup.leave.Goals as goal

pub returns-then-opened-name : goal.returns-then-opened-name
returns-then-opened-name c = search of-older

pub returns-then-name-le-BLOCK_QUOTE_PREFIX : goal.returns-then-name-le-BLOCK_QUOTE_PREFIX
returns-then-name-le-BLOCK_QUOTE_PREFIX c = search goes_through

pub returns-then-self-here-eq0 : goal.returns-then-self-here-eq0
returns-then-self-here-eq0 c = search unfinished

pub returns : goal.returns
returns c = search finished
