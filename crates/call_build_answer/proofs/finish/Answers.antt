-- Each answer of the run. Assumes nothing.
use Rattle.std.proofs.Common.{rules}
use Rattle.call_build_answer.proofs.Laws.{with-page, no-work, no_room_lem}
use Rattle.call_build_answer.proofs.finish.Goals as goal

pub returns-in-Ok : goal.returns-in-Ok
returns-in-Ok c = search with-page

pub returns-in-Err-Work : goal.returns-in-Err-Work
returns-in-Err-Work c = no-work c.in-Err-Work.i (search rules) c.refuse.ensures

pub returns-in-Err-Page : goal.returns-in-Err-Page
returns-in-Err-Page c = no_room_lem c.in-Err-Page.i (search rules) c.refuse-in-Err-Page.ensures
