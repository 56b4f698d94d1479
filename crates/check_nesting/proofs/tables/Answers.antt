-- The tables are tested here, once. Assumes nothing.
use Rattle.std.proofs.Common.{refl}
use Rattle.check_nesting.specs.Grammar.{holds, rules}
use Rattle.check_nesting.specs.Pass.{turn}
use Rattle.check_nesting.specs.Tables.{state, states}
use Rattle.check_nesting.proofs.Entries.{rests, tested}
use Rattle.check_nesting.proofs.tables.Goals as goal

pub returns : goal.returns
unfolding rests turn state states holds rules
returns c = tested _ _ refl refl tt tt refl
