-- One piece behind the other. Assumes nothing.
use Rattle.lent.proofs.Laws.{both}
use Rattle.write_section.proofs.put_on_line.Goals as goal

pub returns : goal.returns
returns c = search both
