-- Where the bytes have no room the end says so. Assumes nothing.
use Rattle.state_kept.proofs.Defining.{definition-over, definition-full, definition-kept}
use Rattle.state_kept.proofs.keep_definition.Goals as goal

pub returns-then-k-gt-SIZE : goal.returns-then-k-gt-SIZE
returns-then-k-gt-SIZE c = search definition-over

pub returns-then-i-ge-DEFINITIONS : goal.returns-then-i-ge-DEFINITIONS
returns-then-i-ge-DEFINITIONS c = search definition-full

pub returns : goal.returns
returns c = search definition-kept
