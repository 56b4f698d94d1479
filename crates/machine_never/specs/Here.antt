-- A place in the list of events, with the events before it and from it on. Assumes nothing.
use Rattle.std.specs.Prelude.{◌≡◌, List, [], ◌∷◌, ℕ, length}
use Rattle.event.specs.declared.Event.{Event}

-- events, newest first, before others
abbrev pub unwind : List Event → List Event → List Event
unwind [] es = es
unwind (e ∷ before) es = unwind before (e ∷ es)

pub record Here (whole : List Event) (p : ℕ) (before es : List Event) : Type 0 where
  pub long : length before ≡ p
  pub same : unwind before es ≡ whole
