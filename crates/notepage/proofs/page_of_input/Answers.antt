-- Unread, or read and shown. Assumes nothing.
use Rattle.notepage.proofs.Laws.{shown-unread, shown_read}
use Rattle.notepage.proofs.page_of_input.Goals as goal

pub returns-in_default : goal.returns-in_default
returns-in_default g c = search shown-unread

pub returns : goal.returns
returns g c = search shown_read
