-- What the walk says: the first fault for 3, where there is none that for 4, and where there is none those for 5 and 6, and whether 7 may look at an event. No part of a promise: `check` has its own. Assumes nothing.
use Rattle.std.specs.Prelude.{◌≡◌, Bool, false, ◌&&◌, List, [], ◌∷◌, ℕ, ◌<◌, Result, Ok, Err, Some, None}
use Rattle.event.specs.declared.Event.{Event}
use Rattle.event.specs.Event.{count_of, is_enter, named, event_at}
use Rattle.check_nesting.specs.Tag.{tags_of}
use Rattle.check_nesting.specs.Pass.{nest_of}
use Rattle.check_fields.specs.Fields.{fields_of}
use Rattle.check_slices.specs.Slices.{slices_of}
use Rattle.check_slices.specs.Counts.{counts_of}
use Rattle.check_events.specs.declared.Passed.{Passed}
use Rattle.check_events.specs.declared.Fault.{Fault}
use Rattle.check_events.specs.declared.Fault.TheVariants.{Field, Nested}

-- the enter of a link, an image or a call
abbrev pub is_use : Event → Bool
is_use e = is_enter e && named (45 ∷ 46 ∷ 62 ∷ []) e

abbrev pub NoUses : (events : List ℕ) → Type 0
NoUses events = (k : ℕ) → k < count_of events → is_use (event_at events k) ≡ false

-- the answers of 5 and 6; where `uses` is false there is none
pub record Passes (text events : List ℕ) (p : Passed) : Type 0 where
  pub slices : p.slices ≡ slices_of text events
  pub counts : p.counts ≡ counts_of events
  pub unused : p.uses ≡ false → NoUses events

abbrev pub Looks : (text events : List ℕ) → Result Passed Fault → Type 0
Looks text events (Err (Field i)) = Some i ≡ fields_of text events
Looks text events (Err (Nested i)) = (None ≡ fields_of text events) × (Some i ≡ nest_of (tags_of events))
Looks text events (Ok p) = (None ≡ fields_of text events) × (None ≡ nest_of (tags_of events)) × Passes text events p
