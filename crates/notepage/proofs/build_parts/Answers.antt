-- The note stands in the first bytes of both buffers. Assumes nothing.
use Rattle.notepage.proofs.Laws.{note-shown}
use Rattle.notepage.proofs.build_parts.Goals as goal

pub returns : goal.returns
returns c = search note-shown
