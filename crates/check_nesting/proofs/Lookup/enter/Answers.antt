-- A name that is none is refused: the tables have no place for it. Assumes nothing.
use Rattle.check_nesting.proofs.Look.{of_none}
use Rattle.check_nesting.proofs.Lookup.enter.Goals as goal

pub returns-then-name-ge-NAMES : goal.returns-then-name-ge-NAMES
returns-then-name-ge-NAMES c = search of_none
