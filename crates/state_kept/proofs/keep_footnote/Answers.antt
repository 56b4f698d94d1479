-- Where the bytes have no room the end says so. Assumes nothing.
use Rattle.state_kept.proofs.Keeping.{footnote-none, footnote-over, footnote-full, footnote-kept}
use Rattle.state_kept.proofs.keep_footnote.Goals as goal

pub returns-then-k-eq0 : goal.returns-then-k-eq0
returns-then-k-eq0 c = search footnote-none

pub returns-then-k-gt-SIZE : goal.returns-then-k-gt-SIZE
returns-then-k-gt-SIZE c = search footnote-over

pub returns-then-i-ge-NOTES : goal.returns-then-i-ge-NOTES
returns-then-i-ge-NOTES c = search footnote-full

pub returns : goal.returns
returns c = search footnote-kept
