-- By the work bytes, then by the checker. Assumes nothing.
use Rattle.call_build_answer.proofs.Laws.{short-work, by-checker}
use Rattle.call_build_answer.proofs.check.Goals as goal

pub returns-then-work-lt-LEAST_WORK : goal.returns-then-work-lt-LEAST_WORK
returns-then-work-lt-LEAST_WORK c = search short-work

pub returns : goal.returns
returns c = search by-checker
