-- The turns that are left of a pass from an index on. Assumes nothing.
use Rattle.std.specs.Prelude.{Bool, not, ◌&&◌, ◌||◌, List, [], ◌∷◌, ℕ, ◌+◌, drop}
use Rattle.event.specs.declared.Event.{Event}
use Rattle.event.specs.Event.{is_enter, named, event_at, events_of}
use Rattle.machine.specs.declared.Options.{Options}
use Rattle.machine.specs.Turn.{Turn, is_exit}
use Rattle.machine.specs.Test.{is_empty}
use Rattle.machine.specs.Run.{pass_from}
use Rattle.dispatch_look_back.specs.Behind.{events_before}

-- inside a definition, or not
unfoldable pub turns_left : (definitions : Bool) → (text events : List ℕ) → Options → (inside : Bool) → (i : ℕ) → List Turn
turns_left definitions text events o inside i = pass_from definitions text o inside i (events_before events i) (drop i (events_of events))

-- whether an event is in a definition, whose enter and exit are, and whether the next one is
unfoldable pub is_here : (inside : Bool) → Event → Bool
is_here inside e = inside || is_enter e && named (53 ∷ []) e

unfoldable pub stays_inside : (inside : Bool) → Event → Bool
stays_inside inside e = is_here inside e && not (is_exit e && named (53 ∷ []) e)

-- the turn of the event at an index
unfoldable pub turn_at : (text events : List ℕ) → Options → ℕ → Turn
turn_at text events o i = record { text = text; options = o; event = event_at events i; place = i; before = events_before events i; last = is_empty (drop (i + 1) (events_of events)) }
