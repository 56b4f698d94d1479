-- By what the page ends in. Assumes nothing.
use Rattle.write_section.proofs.Pages.{at-start, not-at-start}
use Rattle.write_section.proofs.end_line.Goals as goal

pub returns-then-ends_line : goal.returns-then-ends_line
returns-then-ends_line c = search at-start

pub returns : goal.returns
returns c = search not-at-start
