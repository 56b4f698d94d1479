-- The links and images that seek a label, and calls: no part of a promise. Assumes nothing.
use Rattle.std.specs.Prelude.{◌≡◌, Bool, true, false, List, ℕ, ◌+◌, drop, None}
use Rattle.event.specs.declared.Event.{Event}
use Rattle.event.specs.Event.{events_of, event_at}
use Rattle.check_labels.specs.Labels.{sought_of, label_holds, undefined_from, undefined_of}

-- where it says no, no label is sought in the events behind an enter
pub record Seeks (es : List Event) (r : Bool) : Type 0 where
  pub none : r ≡ false → sought_of es ≡ None

-- where it says yes, the name is no link's, image's or call's
pub record Other (name : ℕ) (r : Bool) : Type 0 where
  pub none : r ≡ true → (name ≡ 45 → ⊥) × (name ≡ 46 → ⊥) × (name ≡ 62 → ⊥)

-- where it says no, the event at i holds in any text
pub record IsUse (events : List ℕ) (i : ℕ) (r : Bool) : Type 0 where
  pub holds : r ≡ false → (text : List ℕ) → true ≡ label_holds text (events_of events) (event_at events i) (drop (i + 1) (events_of events))

-- the first of the events from the i-th on that does not hold is the first of all
abbrev pub FirstFrom : (text events : List ℕ) → (i : ℕ) → Type 0
FirstFrom text events i = undefined_from text (events_of events) i (drop i (events_of events)) ≡ undefined_of text events
