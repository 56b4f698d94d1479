-- What the dispatcher of enters over the whole does. Assumes nothing.
use Rattle.std.specs.Prelude.{Bool, true, ◌||◌, List, ℕ, eqb}
use Rattle.event.specs.declared.Event.{Event}
use Rattle.state_context.specs.Rel.{Any}
use Rattle.state_kept.specs.Kept.{Tables}
use Rattle.state_whole.specs.declared.Whole.{Whole}
use Rattle.dispatch_turns.specs.Loud.{world, Acts}

-- its names: those whose enter has a command that is not quiet
abbrev pub enters_whole : ℕ → Bool
enters_whole n = ((eqb n 45 || eqb n 46) || (eqb n 49 || eqb n 53)) || eqb n 62

pub record Enters (e : Event) (b : Whole) (starts : List ℕ) (r : Whole) (starts' : List ℕ) : Type 0 where
  pub enters : (text work out : List ℕ) (tables : Tables) → Acts true 0 255 text Any e b (world work out starts tables) r (world work out starts' tables)
