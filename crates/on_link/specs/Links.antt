-- What handlers of labels are told of a turn, and what becomes of a capture. Assumes nothing.
use Rattle.std.specs.Prelude.{◌≡◌, List, ℕ}
use Rattle.std.specs.Borrow.{MutBor}
use Rattle.event.specs.declared.Event.{Event}
use Rattle.machine.specs.Media.{Part}
use Rattle.machine.specs.Turn.{Turn}
use Rattle.machine.specs.Words.{store}
use Rattle.state_context.specs.Rel.{Any}
use Rattle.state_media.specs.declared.Links.{Links}
use Rattle.state_media.specs.Links.{Stores}
use Rattle.state_whole.specs.declared.Whole.{Whole}
use Rattle.state_whole.specs.Whole.{Roomy, OnWork}

-- one in which this event is handled
pub record Handled (e : Event) (t : Turn) : Type 0 where
  pub event-is : t.event ≡ e

-- the part of the newest medium that a call makes of bytes, whichever they are, is made of what was captured
abbrev pub StoresBy : (post : Links → MutBor (List ℕ) → (from n : ℕ) → Links → MutBor (List ℕ) → Type 0) → (b : Whole) → (work starts : List ℕ) → (r : Whole) → (work' : List ℕ) → Type 0
StoresBy post b work starts r work' =
    (part : Part) → ((l m : Links) (w w' : MutBor (List ℕ)) (from n : ℕ) → post l w from n m w' → Stores part from n l w.now m w'.now) → OnWork Roomy Any (store part) b work starts r work'
