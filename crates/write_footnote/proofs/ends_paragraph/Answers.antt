-- Too short, or by the four bytes before the end. Assumes nothing.
use Rattle.write_footnote.proofs.Bodies.{too_short, close-inside, by-close}
use Rattle.write_footnote.proofs.ends_paragraph.Goals as goal

pub returns-then-end-le3 : goal.returns-then-end-le3
returns-then-end-le3 c = search too_short

pub has_close-requires : goal.has_close-requires
has_close-requires c = search close-inside

pub returns : goal.returns
returns c = search by-close
