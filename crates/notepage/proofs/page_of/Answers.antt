-- Refused at the end, or built. Assumes nothing.
use Rattle.notepage.proofs.Laws.{end_more, end_refused, end_read}
use Rattle.notepage.proofs.page_of.Goals as goal

pub returns-in_default : goal.returns-in_default
returns-in_default c = search end_more

pub returns-in-Err : goal.returns-in-Err
returns-in-Err c = search end_refused

pub returns-in-Ok : goal.returns-in-Ok
returns-in-Ok c = search end_read
