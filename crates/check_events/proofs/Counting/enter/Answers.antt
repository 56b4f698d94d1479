-- Where the event holds the counts stay few. Assumes nothing.
use Rattle.std.proofs.Common.{rules, refl}
use Rattle.check_slices.proofs.Laws.{stays-few}
use Rattle.check_events.proofs.Counting.enter.Goals as goal

pub returns-then-count_holds : goal.returns-then-count_holds
returns-then-count_holds c = (search rules, search stays-few, refl)
