-- Where the look back is asked it finds an event. Assumes nothing.
use Rattle.on_list.proofs.Laws.{tells-tight}
use Rattle.on_list.proofs.is_tight_paragraph.Goals as goal

pub returns : goal.returns
returns c = tells-tight c.is_tight.ensures
