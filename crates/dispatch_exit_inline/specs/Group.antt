-- What a group of names is told of a turn. Assumes nothing.
use Rattle.std.specs.Prelude.{◌≡◌, List, ℕ, suc, ◌≤◌, eqb}
use Rattle.event.specs.declared.Event.{Event}
use Rattle.event.specs.Event.{count_of}
use Rattle.machine.specs.Turn.{Turn}
use Rattle.state_context.specs.Rel.{Sees}
use Rattle.dispatch_look_back.specs.Behind.{events_before}

-- a turn behind the events before an index
pub record At (events : List ℕ) (i : ℕ) (t : Turn) : Type 0 where
  pub before-is : t.before ≡ events_before events i
  pub last-is : t.last ≡ eqb (suc i) (count_of events)

-- and of this event of this text
pub record Here (text events : List ℕ) (i : ℕ) (e : Event) (t : Turn) : Type 0 where
  pub sees : Sees text e t
  pub there : At events i t
