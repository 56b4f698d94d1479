-- The events before one, and what is asked of them. Assumes nothing.
use Rattle.std.specs.Prelude.{Bool, false, List, [], ◌∷◌, ℕ, zero, suc}
use Rattle.std.proofs.Math.Option.{Option, none, some}
use Rattle.event.specs.declared.Event.{Event}
use Rattle.event.specs.Event.{event_at, named}

-- those before the event at an index, newest first: a turn's `before`
abbrev pub events_before : List ℕ → ℕ → List Event
events_before b zero = []
events_before b (suc i) = event_at b i ∷ events_before b i

-- the name of what the look back finds; where it finds nothing, that of no handler
abbrev pub name_of : Option Event → ℕ
name_of none = 0
name_of (some e) = e.name

-- whether a fence ends just before
abbrev pub is_after_fence : List Event → Bool
is_after_fence [] = false
is_after_fence (e ∷ es) = named (29 ∷ []) e
