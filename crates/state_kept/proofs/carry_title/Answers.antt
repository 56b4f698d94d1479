-- Where there is one. Assumes nothing.
use Rattle.state_kept.proofs.Put.{no-title, some-title}
use Rattle.state_kept.proofs.carry_title.Goals as goal

pub returns-then-title-eq0 : goal.returns-then-title-eq0
returns-then-title-eq0 c = search no-title

pub returns : goal.returns
returns c = search some-title
