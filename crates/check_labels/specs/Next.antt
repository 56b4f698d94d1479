-- The labels of definitions: no part of a promise. Assumes nothing.
use Rattle.std.specs.Prelude.{◌≡◌, Bool, true, false, List, ℕ, Some, None}
use Rattle.event.specs.Event.{event_at}
use Rattle.check_labels.specs.Labels.{label_of}

-- the event at i is the exit of an n, with its slice
abbrev pub Labelled : (events : List ℕ) → (n i : ℕ) → Type 0
Labelled events n i = label_of n (event_at events i) ≡ Some ((event_at events i).from.0, (event_at events i).to.0)

pub record IsLabel (events : List ℕ) (n i : ℕ) (r : Bool) : Type 0 where
  pub yes : r ≡ true → Labelled events n i
  pub no : r ≡ false → label_of n (event_at events i) ≡ None

-- where it says yes, it is no exit of a 54 or a 65
pub record IsPlain (events : List ℕ) (i : ℕ) (r : Bool) : Type 0 where
  pub definition : r ≡ true → label_of 54 (event_at events i) ≡ None
  pub footnote : r ≡ true → label_of 65 (event_at events i) ≡ None
