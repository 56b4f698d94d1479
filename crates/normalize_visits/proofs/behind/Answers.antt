-- A triple, a `%` alone, or any other byte. Assumes nothing.
use Rattle.normalize_visits.proofs.Laws.{of-triple, of-percent, of-other}
use Rattle.normalize_visits.proofs.behind.Goals as goal

pub returns-then-has_two_alnum : goal.returns-then-has_two_alnum
returns-then-has_two_alnum c = search of-triple

pub returns-else-has_two_alnum : goal.returns-else-has_two_alnum
returns-else-has_two_alnum c = search of-percent

pub returns-in_default : goal.returns-in_default
returns-in_default c = search of-other
