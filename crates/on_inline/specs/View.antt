-- What a turn shows of an autolink. Assumes nothing.
use Rattle.std.specs.Prelude.{◌≡◌, List, ℕ}
use Rattle.event.specs.declared.Event.{Event}
use Rattle.machine.specs.declared.Options.{Options}
use Rattle.machine.specs.Turn.{Turn}
use Rattle.state_context.specs.Rel.{Sees}

-- one in which this event of this text is handled, with these options
pub record SeesWith (text : List ℕ) (e : Event) (options : Options) (t : Turn) : Type 0 where
  pub sees : Sees text e t
  pub options-are : t.options ≡ options
