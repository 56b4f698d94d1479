-- What the groups of names do: no part of a promise. Assumes nothing.
use Rattle.std.specs.Prelude.{◌≡◌, List, ℕ}
use Rattle.event.specs.declared.Event.{Event}
use Rattle.machine.specs.Turn.{Turn}
use Rattle.dispatch_look_back.specs.Behind.{events_before}
use Rattle.state_context.specs.Rel.{Sees}

-- a turn behind the events before an index
pub record After (events : List ℕ) (i : ℕ) (t : Turn) : Type 0 where
  pub before-is : t.before ≡ events_before events i

-- one of this event of this text there
pub record Here (text events : List ℕ) (i : ℕ) (e : Event) (t : Turn) : Type 0 where
  pub sees : Sees text e t
  pub after : After events i t
